-- The waves of a file by ticks of the comparison are those that its heard changes give.
use Rattle.std.proofs.Common.{◌≡◌, ℕ, ◌+◌, ◌≤◌, ◌<◌, ◌*◌, ◌/◌, Bool, true, ◌==◌, List, [], ◌∷◌, length, map}
use Rattle.std.proofs.Common.{filter, refl, sym, ap, ◌∙◌, eq-eqb}
use Rattle.std.proofs.Common.{arith, inl, inr, Some, All, get_or, if◌then◌else◌, nat_le}
use Rattle.std.specs.Prelude.{slice_get}
use Rattle.std.proofs.Math.Nat.{le-div_iff_mul-le}
use Rattle.std.proofs.lemmas.Bool.{cases_Bool, cases_eq, cases_lt, le-leb, leb-true, both_ways, ne_eqb, eqb-true}
use Rattle.std.proofs.lemmas.List.Elements.{All-tail}
use Rattle.std.proofs.lemmas.Option.{slice_get_within, get_or_from_slice_get}
use Rattle.vcd_core.specs.declared.bit.Bit.{Bit}
use Rattle.vcd_core.specs.Contents.{signal_value}
use Rattle.vcd_core.specs.Value.{all_x}
use Rattle.vcd_core.specs.Wave.{change, value_from, value_at, AllUpTo}
use Rattle.vcd_core.proofs.shared.Waves.{value_last, changes_end}
use Rattle.vcd_text.specs.Grammar.{VariableDeclaration, ParseState, initial_state, kept_variables}
use Rattle.vcd_text.specs.Letters.{extension, letters_of_digits}
use Rattle.vcd_text.specs.HeardChanges.{HeardChange, AreHeard, heard_changes, first_with, is_of_kept}
use Rattle.vcd_text.specs.HeardChanges.{skipped_variables}
use Rattle.vcd_text.specs.HeardLaws.{TicksRise, FitsTarget}
use Rattle.vcd_text.specs.Meaning.{declared_signal, changes_of_code}
use Rattle.vcd_text.specs.declared.reading.heard_changes.ChangeTarget.{ChangeTarget}
use Rattle.vcd_text.specs.declared.reading.heard_changes.ChangeTarget.TheVariants.{Kept, Skipped}
use Rattle.vcd_text.proofs.shared.FirstVariables.{first_found}
use Rattle.vcd_text.proofs.shared.HeardMeaning.{heard_give_values, heard_rise, heard_fit}
use Rattle.vcd_compare.specs.Variables.{last_value, is_of_skipped, is_event_kind, word_of}
use Rattle.vcd_compare.specs.inside.Walk.{wave_of, word_wave_of}
use Rattle.vcd_compare.specs.inside.WalkSteps.{GivenFile, signal_heard, skipped_heard, wave_heard, target_position}
use Rattle.vcd_compare.specs.inside.WalkSteps.{declares_event, text_of_target, given_text}
use Rattle.vcd_compare.proofs.shared.HeardParts.{rise_bounds, kept_within}

-- ---- signals

-- a tick comes by the multiple of a factor exactly if it comes by the quotient
same_test : (factor tick t : ℕ) → 1 ≤ factor → nat_le (tick * factor) t ≡ nat_le tick (t / factor)
same_test factor tick t some =
    let both = le-div_iff_mul-le {k = factor} {x = tick} {y = t} some in
    elim (cases_Bool (nat_le tick (t / factor))) [
      | inl by ↦ le-leb _ _ (both.0 (leb-true _ _ by)) ∙ sym by
      | inr later ↦ elim (cases_Bool (nat_le (tick * factor) t)) [
        | inl by ↦ absurd (both_ways _ later (le-leb _ _ (both.1 (leb-true _ _ by))))
        | inr also ↦ also ∙ sym later
      ]
    ]

value_scaled : (factor size : ℕ) (before : List Bit) (hs : List HeardChange) (t : ℕ) → 1 ≤ factor
    → value_from before
    (map (λ (h : HeardChange). change h.tick (extension size (letters_of_digits h.text))) hs) (t / factor)
    ≡ last_value before
    (map (λ (h : HeardChange). (h.tick * factor, extension size (letters_of_digits h.text))) hs) t
unfolding value_from last_value
value_scaled factor size before [] t some = refl
value_scaled factor size before (h ∷ hs) t some =
    let value : List Bit = extension size (letters_of_digits h.text) in
    value_scaled factor size (if nat_le h.tick (t / factor) then value else before) hs t some
    ∙ ap (λ b. last_value (if b then value else before)
    (map (λ (g : HeardChange). (g.tick * factor, extension size (letters_of_digits g.text))) hs) t)
    (sym (same_test factor h.tick t some))

-- no change of a variable is past the end
heard_upto : (size position from to : ℕ) (hs : List HeardChange)
    → TicksRise from to (map (λ (h : HeardChange). h.tick) hs) → AllUpTo to (heard_changes size position hs)
heard_upto size position from to [] rise = tt
heard_upto size position from to (h ∷ hs) (first, rise) =
    elim (cases_Bool (is_of_kept position h.target)) [
      | inl own ↦ rw own (rise_bounds h.tick to _ rise, heard_upto size position h.tick to hs rise)
      | inr other ↦ rw other (heard_upto size position h.tick to hs rise)
    ]

-- the position of a signal among all variables is that among the signals
same_signal : (signals position : ℕ) (target : ChangeTarget) → position < signals
    → is_of_kept position target ≡ (target_position signals target == position)
same_signal signals position (Kept k) below = refl
same_signal signals position (Skipped k) below =
    sym (ne_eqb (signals + k) position (λ e. omega (arith, below, e)))

module _ (limit : ℕ) (state : ParseState) (heard : List HeardChange) (are : AreHeard (initial_state limit) state heard)
    (k : ℕ) (d : VariableDeclaration) (at : slice_get (kept_variables state.declared) k ≡ Some d) where
  -- also past the end a signal has the value that its heard changes give
  value_heard : (t : ℕ) → signal_value (declared_signal state.value_changes state.tick d) t
      ≡ value_at d.size (heard_changes d.size (first_with d.code (kept_variables state.declared)) heard) t
  value_heard t =
      let p = first_with d.code (kept_variables state.declared) in
      let own = value_at d.size (changes_of_code d.size d.code state.value_changes) in
      let listed = (declared_signal state.value_changes state.tick d).changes in
      let upto = heard_upto d.size p 0 state.tick heard (heard_rise (initial_state limit) state heard are) in
      elim (cases_lt state.tick t) [
        | inl past ↦
            value_last (all_x d.size) listed state.tick t (changes_end d.size state.tick own) (omega arith)
            ∙ sym (value_last (all_x d.size) listed state.tick state.tick (changes_end d.size state.tick own)
            (omega arith))
            ∙ heard_give_values limit state heard are k state.tick d at (omega arith)
            ∙ value_last (all_x d.size) (heard_changes d.size p heard) state.tick state.tick upto (omega arith)
            ∙ sym (value_last (all_x d.size) (heard_changes d.size p heard) state.tick t upto (omega arith))
        | inr within ↦ heard_give_values limit state heard are k t d at within
      ]

  -- the wave of a signal
  pub signal_wave : (f : GivenFile) → f.declared ≡ state.declared → 1 ≤ f.factor
      → wave_of f.factor state d
      ≡ wave_heard (signal_heard f d.size (first_with d.code (kept_variables state.declared))) heard
  signal_wave f same some =
      let p = first_with d.code (kept_variables state.declared) in
      let first = first_found d.code (kept_variables state.declared) k d at refl in
      let within = slice_get_within (kept_variables state.declared) p first.found first.at_first in
      let below : p < length (kept_variables f.declared) =
      omega (arith, within, ap (λ ds. length (kept_variables ds)) same) in
      (λ i t. (value_heard (t / f.factor) ∙ value_scaled f.factor d.size (all_x d.size)
      (filter (λ (h : HeardChange). is_of_kept p h.target) heard) t some) i)
      ∙ (λ i. last_value (all_x d.size)
      (map (λ (h : HeardChange). (h.tick * f.factor, extension d.size (letters_of_digits h.text)))
      (filter (λ (h : HeardChange). same_signal (length (kept_variables f.declared)) p h.target below i) heard)))

-- ---- other variables

-- a kept target is one of so many signals
abbrev IsPlaced : (signals : ℕ) → ChangeTarget → Type 0
IsPlaced signals (Kept k) = k < signals
IsPlaced signals (Skipped k) = Unit {0}

is_placed : (declared : List VariableDeclaration) (target : ChangeTarget) (text : List ℕ)
    → FitsTarget declared target text → IsPlaced (length (kept_variables declared)) target
is_placed declared (Kept k) text fits = kept_within declared k text fits
is_placed declared (Skipped k) text fits = tt

-- the position of a skipped variable among all variables comes after the signals
same_skipped : (signals position : ℕ) (target : ChangeTarget) → IsPlaced signals target
    → (target_position signals target == (signals + position)) ≡ is_of_skipped position target
same_skipped signals position (Kept k) below = ne_eqb k (signals + position) (λ e. omega (arith, below, e))
same_skipped signals position (Skipped k) placed =
    elim (cases_eq k position) [
      | inl same ↦ eq-eqb (signals + k) (signals + position) (ap (λ n. signals + n) same)
          ∙ sym (eq-eqb k position same)
      | inr apart ↦ ne_eqb (signals + k) (signals + position) (λ e. apart (omega (arith, e)))
          ∙ sym (ne_eqb k position apart)
    ]

module _ (signals position factor : ℕ) (skipped : List VariableDeclaration) (is_event : Bool)
    (declares : declares_event (slice_get skipped position) ≡ is_event) where
  word_given : (tick : ℕ) (text : List ℕ) (target : ChangeTarget) → is_of_skipped position target ≡ true
      → text_of_target skipped target tick text ≡ word_of is_event tick text
  word_given tick text (Kept k) own = absurd (cc own)
  word_given tick text (Skipped k) own = ap (λ b. word_of b tick text)
      (ap (λ n. declares_event (slice_get skipped n)) (eqb-true k position own) ∙ declares)

  -- the words of a variable are what the pairs are given of its changes
  words_given : (hs : List HeardChange) → All (λ (h : HeardChange). IsPlaced signals h.target) hs
      → map {B = ℕ × List ℕ} (λ (h : HeardChange). (h.tick * factor, word_of is_event (h.tick * factor) h.text))
      (filter (λ (h : HeardChange). is_of_skipped position h.target) hs)
      ≡ map {B = ℕ × List ℕ} (λ (h : HeardChange). (h.tick * factor, given_text skipped (h.tick * factor) h))
      (filter (λ (h : HeardChange). target_position signals h.target == (signals + position)) hs)
  words_given [] placed = refl
  words_given (h ∷ hs) placed =
      let same = same_skipped signals position h.target (placed 0 h (omega arith)) in
      let rest = words_given hs (All-tail (λ (g : HeardChange). IsPlaced signals g.target) h hs placed) in
      elim (cases_Bool (is_of_skipped position h.target)) [
        | inl own ↦ rw own (rw (same ∙ own)
            (λ i. (h.tick * factor, sym (word_given (h.tick * factor) h.text h.target own) i) ∷ rest i))
        | inr other ↦ rw other (rw (same ∙ other) rest)
      ]

module _ (limit : ℕ) (state : ParseState) (heard : List HeardChange) (are : AreHeard (initial_state limit) state heard)
    (k : ℕ) (d : VariableDeclaration) (at : slice_get (skipped_variables state.declared) k ≡ Some d) where
  placed : All (λ (h : HeardChange). IsPlaced (length (kept_variables state.declared)) h.target) heard
  placed i default below =
      let h : HeardChange = get_or heard i default in
      is_placed state.declared h.target h.text (heard_fit limit state heard are i default below)

  -- the wave of a variable that is no signal
  pub word_wave : (f : GivenFile) → f.declared ≡ state.declared
      → word_wave_of f.factor (record { state = state; heard = heard }) d
      ≡ wave_heard (skipped_heard f (length (kept_variables state.declared)
      + first_with d.code (skipped_variables state.declared))) heard
  word_wave f same =
      let skipped = skipped_variables state.declared in
      let p = first_with d.code skipped in
      let first = first_found d.code skipped k d at refl in
      let is_event = is_event_kind (get_or skipped p d).kind in
      let declares : declares_event (slice_get skipped p) ≡ is_event = ap declares_event first.at_first
      ∙ ap (λ (x : VariableDeclaration). is_event_kind x.kind)
      (sym (get_or_from_slice_get skipped p first.found d first.at_first)) in
      let signals : ℕ = length (kept_variables state.declared) in
      ap (last_value []) (words_given signals p f.factor skipped is_event declares heard placed)
      ∙ (λ i. wave_heard (skipped_heard (record {
        factor = f.factor;
        declared = sym same i;
        given = f.given;
      }) (signals + p)) heard)
