-- What stands of a file that is amended for another capture, for those who use it. It follows from
-- the exact text (`AmendedText`). The project's own.
use Rattle.std.specs.Prelude.{◌≡◌, ℕ, Bool, true, false, not, ◌&&◌, ◌||◌, ◌+◌, ◌≤◌, ◌==◌, List, []}
use Rattle.std.specs.Prelude.{◌∷◌, ◌++◌, map, length, All, Option, Some, None, is_some, IsTrue}
use Rattle.std.specs.Prelude.{get_or}
use Rattle.std.specs.Prelude.{bytes_eq, count_by}
use Rattle.std.specs.List.{list_any, zip}
use Rattle.std.specs.Cmp.Lexicographic.{pointwise}
use Rattle.vcd_core.specs.Decimal.{number_of}
use Rattle.vcd_core.specs.Word.{is_one_of}
use Rattle.vcd_core.specs.Value.{same_letters}
use Rattle.vcd_core.specs.declared.wave.Change.{Change}
use Rattle.vcd_core.specs.Wave.{value_at}
use Rattle.vcd_core.specs.Contents.{SignalContents}
use Rattle.vcd_core.specs.Sound.{IsSoundSignal}
use Rattle.vcd_text.specs.Items.{Item, scope, upscope, variable, stamp, scalar, vector}
use Rattle.vcd_text.specs.Items.{real_or_string}
use Rattle.vcd_text.specs.Grammar.{VariableDeclaration, ParseState, kept_variables, is_skipped}
use Rattle.vcd_text.specs.Grammar.{declaration_of, initial_state, state_after_item, AllowsAll}
use Rattle.vcd_text.specs.Meaning.{declared_signal, meaning, FileMeans}
use Rattle.vcd_amend.specs.Amendment.{wave_has_change}
use Rattle.vcd_copy.specs.Pieces.{Piece, IsCut, state_of_pieces}
use Rattle.vcd_amend.specs.AmendedText.{amended_text}
use Rattle.vcd_amend.specs.GivenCodes.{AreSignalsOf, is_unchanged, signals_left, amendment_for}
use Rattle.vcd_amend.specs.GivenCodes.{held_codes}
use Rattle.vcd_copy.specs.Ticks.{tick_after_item}

-- ---- which items may go, and which may come

-- whether the declaration of a variable may go: nothing is left of it, or this under another name
-- or with another wave
abbrev pub declaration_may_go : ParseState → VariableDeclaration → Option SignalContents → Bool
declaration_may_go s d None = true
declaration_may_go s d (Some n) = not (pointwise bytes_eq d.words n.words && is_unchanged s d n)

-- whether this holds of a variable that has the code
abbrev pub any_with_code : (VariableDeclaration → Option SignalContents → Bool) → (code : List ℕ)
    → List VariableDeclaration → List (Option SignalContents) → Bool
any_with_code test code ds remaining =
    list_any (λ p. bytes_eq code p.0.code && test p.0 p.1) (zip ds remaining)

-- whether the wave that is left of a variable differs at a tick from that in the file, or does not
-- change where that one does
abbrev pub wave_differs : ParseState → ℕ → VariableDeclaration → Option SignalContents → Bool
wave_differs s t d None = false
wave_differs s t d (Some n) =
    let old : List Change = (declared_signal s.value_changes s.tick d).changes in
    not (same_letters (value_at d.size old t) (value_at d.size n.changes t))
    || (wave_has_change old t && not (wave_has_change n.changes t))

-- whether a code has kept variables, and nothing is left of them
abbrev pub is_gone : ParseState → (remaining : List (Option SignalContents)) → (code : List ℕ)
    → Bool
is_gone s remaining code =
    any_with_code (λ d o. not (is_some o)) code (kept_variables s.declared) remaining
    && not (any_with_code (λ d o. is_some o) code (kept_variables s.declared) remaining)

-- whether a change of a code to digits at a tick may go
abbrev pub change_may_go : ParseState → (remaining : List (Option SignalContents)) → ℕ
    → (code : List ℕ) → Bool
change_may_go s remaining t code =
    any_with_code (wave_differs s t) code (kept_variables s.declared) remaining
    || is_gone s remaining code

-- whether a `$var` after other variables may go, if it declares this one, or none
abbrev pub variable_may_go : ParseState → (remaining : List (Option SignalContents))
    → (before : List VariableDeclaration) → Option VariableDeclaration → Bool
variable_may_go s remaining before None = false
variable_may_go s remaining before (Some d) = not (is_skipped d)
    && declaration_may_go s d (get_or remaining (length (kept_variables before)) None)

-- whether an item may go of a file with this state, if it comes after another state
abbrev pub may_go : ParseState → (remaining : List (Option SignalContents)) → (now : ParseState)
    → Item → Bool
may_go s remaining now (variable words) =
    variable_may_go s remaining now.declared (declaration_of now words)
may_go s remaining now (scalar digit code) = change_may_go s remaining now.tick code
may_go s remaining now (vector first digits code) = change_may_go s remaining now.tick code
may_go s remaining now (real_or_string first text code) = is_gone s remaining code
may_go s remaining now item = false

-- whether these words of a `$var` declare the signal
abbrev pub declares : List (List ℕ) → SignalContents → Bool
declares (kind ∷ size ∷ code ∷ words) n =
    bytes_eq kind n.kind && (number_of size == n.width) && pointwise bytes_eq words n.words
declares words n = false

-- whether a code keeps its wave, if these signals are left of the kept variables of a file: a
-- skipped variable has it, or one that is left with its wave
abbrev pub keeps_wave : ParseState → (remaining : List (Option SignalContents))
    → (code : List ℕ) → Bool
keeps_wave s remaining code =
    list_any (λ d. is_skipped d && bytes_eq code d.code) s.declared
    || is_one_of (held_codes s (kept_variables s.declared) remaining) code

-- whether an item may be put in: a stamp, a scope or its end, the declaration of one of these
-- signals, or a change of a code that does not keep its wave
abbrev pub may_be_put_in : ParseState → (remaining : List (Option SignalContents))
    → (signals : List SignalContents) → Item → Bool
may_be_put_in s remaining signals (stamp digits) = true
may_be_put_in s remaining signals (scope kind words) = true
may_be_put_in s remaining signals upscope = true
may_be_put_in s remaining signals (variable words) = list_any (declares words) signals
may_be_put_in s remaining signals (scalar digit code) = not (keeps_wave s remaining code)
may_be_put_in s remaining signals (vector first digits code) = not (keeps_wave s remaining code)
may_be_put_in s remaining signals item = false

-- ---- the law

-- whether the pieces of a file after a state may become these of a text after a tick: each stands
-- with its bytes, at a tick that is the same after it in both, or may go; others come that may, and
-- each takes the white space before the next piece, and leaves it a line feed
unfoldable pub may_become : (go : ParseState → Item → Bool) → (come : Item → Bool) → ParseState
    → (tick : ℕ) → (pieces made : List Piece) → Bool
may_become go come now tick [] [] = true
may_become go come now tick [] (q ∷ qs) = come q.item && bytes_eq q.space (10 ∷ [])
    && may_become go come now (tick_after_item tick q.item) [] qs
may_become go come now tick (p ∷ ps) [] =
    go now p.item && may_become go come (state_after_item now p.item) tick ps []
may_become go come now tick (p ∷ ps) (q ∷ qs) =
    ((tick_after_item tick p.item == (state_after_item now p.item).tick)
    && bytes_eq q.space p.space && bytes_eq q.body p.body
    && may_become go come (state_after_item now p.item) (tick_after_item tick p.item) ps qs)
    || ((go now p.item && may_become go come (state_after_item now p.item) tick ps (q ∷ qs))
    || (come q.item && bytes_eq q.space p.space
    && may_become go come now (tick_after_item tick q.item) (record p { space = 10 ∷ [] } ∷ ps) qs))

-- in this text every item of a file of these pieces stands at its tick but those that may go, if
-- these signals are left of its kept variables; only what may be put in for these signals comes
pub record ItemsStand (limit : ℕ) (remaining : List (Option SignalContents))
    (signals : List SignalContents) (pieces : List Piece) (tail text : List ℕ) : Type 0 where
  pub made : List Piece
  pub cut : IsCut text made tail
  pub stand : IsTrue (may_become (may_go (state_of_pieces limit pieces) remaining)
      (may_be_put_in (state_of_pieces limit pieces) remaining signals) (initial_state limit) 0
      pieces made)

-- read again, the amended file is the capture that was asked for, with as many variables skipped as
-- before; what is not touched stands
abbrev pub UntouchedItemsStand : Type 0
UntouchedItemsStand = (limit : ℕ) (file : List ℕ) (pieces : List Piece) (tail : List ℕ)
    (s : ParseState) (remaining : List (Option SignalContents)) (derived : List SignalContents)
    (text : List ℕ)
    → IsCut file pieces tail
    → AllowsAll (initial_state limit) (map (λ p. p.item) pieces)
    → s ≡ state_of_pieces limit pieces → IsTrue s.in_body
    → AreSignalsOf s (kept_variables s.declared) remaining → All (IsSoundSignal s.tick) derived
    → length (signals_left remaining) + length derived ≤ limit
    → text ≡ amended_text (amendment_for s remaining derived) true (initial_state limit) pieces tail
    → FileMeans limit text (record (meaning s) { signals = signals_left remaining ++ derived })
    (count_by is_skipped s.declared)
    × ItemsStand limit remaining (signals_left remaining ++ derived) pieces tail text
