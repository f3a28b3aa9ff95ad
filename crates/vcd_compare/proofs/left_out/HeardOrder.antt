-- The changes of a file come in the order of its ticks, and there are no more of them than bytes.
use Rattle.std.proofs.Common.{ℕ, ◌≤◌, true, List, [], ◌∷◌, ◌++◌, length, map, ap, subst, arith, Option, Some, None}
use Rattle.std.proofs.Common.{inl, inr}
use Rattle.std.proofs.lemmas.Bool.{cases_Bool}
use Rattle.std.proofs.lemmas.List.{length-append, length-map}
use Rattle.vcd_core.specs.declared.capture.TheConstants.{END_LIMIT, SIGNAL_LIMIT}
use Rattle.vcd_text.specs.Words.{words_of}
use Rattle.vcd_text.specs.Items.{Item, entry, timescale, scope, upscope, variable, end_definitions, stamp, scalar}
use Rattle.vcd_text.specs.Items.{vector, real_or_string, dump_word, other, spelling, spellings}
use Rattle.vcd_text.specs.Grammar.{VariableDeclaration, ParseState, Allows, AllowsAll, state_after, state_after_item}
use Rattle.vcd_text.specs.Grammar.{initial_state, variable_of, is_skipped}
use Rattle.vcd_text.specs.HeardChanges.{HeardChange, AreHeard, FileIsHeard, heard_all, heard_of, heard_value}
use Rattle.vcd_text.specs.HeardChanges.{heard_word}
use Rattle.vcd_text.specs.HeardLaws.{TicksRise}
use Rattle.vcd_text.proofs.shared.HeardMeaning.{heard_rise}
use Rattle.vcd_text.proofs.shared.ItemTests.{has_tick}
use Rattle.vcd_text.proofs.shared.WordsInTurn.{words_are_few}
use Rattle.vcd_text.proofs.shared.WordsByBytes.{words_by_bytes}
use Rattle.vcd_compare.specs.inside.LeftOut.{AreInOrder}
use Rattle.vcd_compare.proofs.shared.HeardParts.{rise_bounds}

abbrev pub ticks : List HeardChange → List ℕ
ticks hs = map (λ (h : HeardChange). h.tick) hs

-- ---- the last tick

small_item : (s : ParseState) (i : Item) → Allows s i → s.tick ≤ END_LIMIT → (state_after_item s i).tick ≤ END_LIMIT
small_item s (stamp digits) allowed small = grind (arith, has_tick)
small_item s (scalar digit code) allowed small = small
small_item s (vector first digits code) allowed small = small
small_item s (real_or_string first text code) allowed small = small
small_item s (entry kind words) allowed small = small
small_item s (timescale words) allowed small = small
small_item s (scope kind words) allowed small = small
small_item s upscope allowed small = small
small_item s (variable words) allowed small = small
small_item s end_definitions allowed small = small
small_item s (dump_word word) allowed small = small
small_item s (other word words) allowed small = small

small_items : (s : ParseState) (is : List Item) → AllowsAll s is → s.tick ≤ END_LIMIT
    → (state_after s is).tick ≤ END_LIMIT
small_items s [] allowed small = small
small_items s (i ∷ is) (one, others) small =
    small_items (state_after_item s i) is others (small_item s i one small)

-- ---- the order of ticks

rise_upto : (from to most : ℕ) (ts : List ℕ) → to ≤ most → TicksRise from to ts → TicksRise from most ts
rise_upto from to most [] upto rise = omega (arith, upto, rise)
rise_upto from to most (t ∷ ts) upto (first, rise) = (first, rise_upto t to most ts upto rise)

-- what was heard of a file from its begin
pub heard_in_order : (state : ParseState) (heard : List HeardChange) → AreHeard (initial_state SIGNAL_LIMIT) state heard
    → AreInOrder heard
heard_in_order state heard are =
    rise_upto 0 state.tick END_LIMIT (ticks heard)
    (subst (λ (s : ParseState). s.tick ≤ END_LIMIT) are.state_is
    (small_items (initial_state SIGNAL_LIMIT) are.items are.allowed (omega arith)))
    (heard_rise (initial_state SIGNAL_LIMIT) state heard are)

-- a change after others
pub order_before : (from to : ℕ) (hs : List HeardChange) (h : HeardChange) (rest : List HeardChange)
    → TicksRise from to (ticks (hs ++ h ∷ rest)) → TicksRise from h.tick (ticks hs) × (h.tick ≤ to)
order_before from to [] h rest (first, rise) = (first, rise_bounds h.tick to (ticks rest) rise)
order_before from to (g ∷ hs) h rest (first, rise) =
    let (others, upto) = order_before g.tick to hs h rest rise in ((first, others), upto)

-- ---- how many there are

value_at_most : (s : ParseState) (code text : List ℕ) (o : Option VariableDeclaration)
    → length (heard_value s code text o) ≤ 1
value_at_most s code text None = omega arith
value_at_most s code text (Some d) = omega arith

word_at_most : (s : ParseState) (code word : List ℕ) (o : Option VariableDeclaration)
    → length (heard_word s code word o) ≤ 1
word_at_most s code word None = omega arith
word_at_most s code word (Some d) =
    elim (cases_Bool (is_skipped d)) [
      | inl skips ↦ rw skips (omega arith)
      | inr keeps ↦ rw keeps (omega arith)
    ]

-- at most one is heard of an item
one_at_most : (s : ParseState) (i : Item) → length (heard_of s i) ≤ length (spelling i)
one_at_most s (scalar digit code) = value_at_most s code (digit ∷ []) (variable_of s code)
one_at_most s (vector first digits code) =
    omega (arith, value_at_most s code digits (variable_of s code))
one_at_most s (real_or_string first text code) =
    omega (arith, word_at_most s code (first ∷ text) (variable_of s code))
one_at_most s (entry kind words) = omega arith
one_at_most s (timescale words) = omega arith
one_at_most s (scope kind words) = omega arith
one_at_most s upscope = omega arith
one_at_most s (variable words) = omega arith
one_at_most s end_definitions = omega arith
one_at_most s (stamp digits) = omega arith
one_at_most s (dump_word word) = omega arith
one_at_most s (other word words) = omega arith

few_heard : (s : ParseState) (is : List Item) → length (heard_all s is) ≤ length (spellings is)
unfolding heard_all
few_heard s [] = omega arith
few_heard s (i ∷ is) = omega (
  arith,
  length-append (heard_of s i) (heard_all (state_after_item s i) is),
  length-append (spelling i) (spellings is),
  one_at_most s i,
  few_heard (state_after_item s i) is,
)

-- a file has no more changes than bytes
pub heard_are_few : (file : List ℕ) (state : ParseState) (heard : List HeardChange)
    → FileIsHeard SIGNAL_LIMIT file state heard → length heard ≤ length file
heard_are_few file state heard is = omega (
  arith,
  ap (length {A = HeardChange}) is.heard_is,
  few_heard (initial_state SIGNAL_LIMIT) is.accepted.items,
  ap (length {A = List ℕ}) is.accepted.spelled,
  length-map (words_of file) (λ w. w.text),
  ap length (words_by_bytes file),
  words_are_few true 1 file,
)
