-- Edits of a capture, as one of its signals sees them.
use Rattle.std.proofs.Common.{◌≡◌, ℕ, ◌+◌, ◌-◌, ◌==◌, ◌<◌, ◌≤◌, List, [], ◌∷◌, length, get_or, set, drop, Option}
use Rattle.std.proofs.Common.{Some, None, refl, sym, ap, subst, ◌∙◌, arith, inl, inr}
use Rattle.std.specs.Bool.{then_some}
use Rattle.std.specs.List.{push, remove}
use Rattle.std.specs.Option.{option_and_then}
use Rattle.std.proofs.lemmas.Grind.{get_or-set_at}
use Rattle.std.specs.Prelude.{IfSome}
use Rattle.std.proofs.lemmas.Bool.{cases_eq, cases_lt, lt-ltb, le-ltb}
use Rattle.std.proofs.lemmas.Bool.Decides.{nat_tests, eqb_tells}
use Rattle.std.proofs.lemmas.Option.{IfSome_then}
use Rattle.std.proofs.lemmas.List.{get_or-set_other, drop_all, get_or_append_left, length-set, length_push}
use Rattle.std.proofs.lemmas.List.Edits.{length-remove, get_or-remove_below, get_or-remove_above}
use Rattle.vcd_core.specs.declared.bit.Bit.{Bit}
use Rattle.vcd_core.specs.declared.wave.Change.{Change}
use Rattle.vcd_core.specs.Contents.{Contents, SignalContents, no_signal, signal_at, with_signal}
use Rattle.vcd_edit.specs.declared.edit.Edit.{Edit}
use Rattle.vcd_edit.specs.declared.edit.Edit.TheVariants as edits
use Rattle.vcd_edit.specs.Effect.{effect, derived_signal}
use Rattle.vcd_edit.specs.EditFaults.{edit_fault}
use Rattle.vcd_edit.proofs.shared.Lists.{drop_here}
use Rattle.vcd_stream.specs.declared.pipeline.Pipeline.{Pipeline}
use Rattle.vcd_stream.specs.declared.wave_edit.WaveEdit.{WaveEdit}
use Rattle.vcd_stream.specs.declared.wave_edit.WaveEdit.TheVariants.{Invert, Deglitch, Shift, Force, Cut}
use Rattle.vcd_stream.specs.WaveEdits.{edit_of, IsAllowed}
use Rattle.vcd_stream.specs.Pipelines.{FitsSignal, GivesSignal}
use Rattle.vcd_stream.specs.SignalEdits.{wave_edit_of, position_after, position_after_all}
use Rattle.vcd_stream.specs.inside.SignalEdits.{HoldsBetween}

-- ---- an edit of the signal itself, and a cut

-- what a signal sees is the edit
seen_is_edit : (k : ℕ) (w : WaveEdit) (e : Edit) → wave_edit_of e k ≡ Some w → edit_of k w ≡ e
seen_is_edit k w (edits.Invert j) is = grind (arith, nat_tests)
seen_is_edit k w (edits.Deglitch j ticks) is = grind (arith, nat_tests)
seen_is_edit k w (edits.Shift j by) is = grind (arith, nat_tests)
seen_is_edit k w (edits.Force j from to value) is = grind (arith, nat_tests)
seen_is_edit k w (edits.Cut from to) is = ap (edit_of k) {x = w} {y = Cut from to} (cc)
seen_is_edit k w (edits.Rename j word) is = absurd (cc)
seen_is_edit k w (edits.Remove j) is = absurd (cc)
seen_is_edit k w (edits.Derive word rule) is = absurd (cc)

-- without a fault it is allowed
allowed_without_fault : (c : Contents) (k : ℕ) (w : WaveEdit) → edit_fault (edit_of k w) c ≡ None
    → IsAllowed c.end (signal_at c k).width w
unfolding edit_fault
allowed_without_fault c k Invert none = tt
allowed_without_fault c k (Deglitch ticks) none = tt
allowed_without_fault c k (Shift by) none = tt
allowed_without_fault c k (Force from to value) none =
    (grind (arith, nat_tests), grind (arith, nat_tests), grind (arith, nat_tests))
allowed_without_fault c k (Cut from to) none = (grind (arith, nat_tests), grind (arith, nat_tests))

module _ (e : Edit) (c : Contents) (k : ℕ) (w : WaveEdit) (sees : wave_edit_of e k ≡ Some w) where
  pub allowed_seen : {V : Type 0} (before : Pipeline V) → FitsSignal before c k → edit_fault e c ≡ None
      → IsAllowed before.end before.width w
  allowed_seen before fits none =
      let none_of : edit_fault (edit_of k w) c ≡ None =
      ap (λ (d : Edit). edit_fault d c) (seen_is_edit k w e sees) ∙ none in
      subst (λ n. IsAllowed n before.width w) fits.end
      (subst (λ n. IsAllowed c.end n w) fits.width (allowed_without_fault c k w none_of))

  -- the signal stays where it is
  stays_there : (w : WaveEdit) → position_after (edit_of k w) k ≡ Some k
  stays_there Invert = refl
  stays_there (Deglitch ticks) = refl
  stays_there (Shift by) = refl
  stays_there (Force from to value) = refl
  stays_there (Cut from to) = refl

  -- so what holds of the effect there holds after the edit
  pub of_effect : (P : Contents → ℕ → Type 0) → P (effect (edit_of k w) c) k
      → IfSome (position_after e k) (P (effect e c))
  of_effect P holds = subst (λ (d : Edit). IfSome (position_after d k) (P (effect d c))) (seen_is_edit k w e sees)
      (subst (λ (o : Option ℕ). IfSome o (P (effect (edit_of k w) c))) (sym (stays_there w)) holds)

-- ---- any other edit

-- it is one of another signal
other_position : (j k : ℕ) (x : WaveEdit) → then_some (j == k) x ≡ None → k ≡ j → ⊥
other_position j k x none same = grind (arith, nat_tests)

abbrev HasSameWave : SignalContents → SignalContents → Type 0
HasSameWave r s = (r.width ≡ s.width) × (r.changes ≡ s.changes)

-- a signal that is another one
same_wave : (r s t : SignalContents) → r ≡ s → HasSameWave s t → HasSameWave r t
same_wave r s t is same =
    (ap (λ (s : SignalContents). s.width) is ∙ same.0, ap (λ (s : SignalContents). s.changes) is ∙ same.1)

-- a signal of a capture is left with its wave at a position of another one that ends with it
abbrev IsLeft : Contents → ℕ → Contents → ℕ → Type 0
IsLeft c k d j = (j < length d.signals) × HasSameWave (signal_at d j) (signal_at c k) × (d.end ≡ c.end)

module _ (c : Contents) (k : ℕ) (within : k < length c.signals) where
  unmoved : (ss : List SignalContents) (j : ℕ) → j < length ss → get_or ss j no_signal ≡ signal_at c k
      → IsLeft c k (record c { signals = ss }) j
  unmoved ss j there is = (there, same_wave _ _ (signal_at c k) is (refl, refl), refl)

  -- a signal is put at a position, with the same wave if it is that of the signal
  replaced : (j : ℕ) (s : SignalContents) → (k ≡ j → HasSameWave s (signal_at c k)) → IsLeft c k (with_signal c j s) k
  replaced j s alike =
      let there : k < length (set c.signals j s) = omega (arith, length-set c.signals j s) in
      elim (cases_eq k j) [
        | inl same ↦ (
          there,
          same_wave _ s (signal_at c k) (get_or-set_at c.signals j k s no_signal same (omega arith)) (alike same),
          refl,
        )
        | inr other ↦ unmoved (set c.signals j s) k there (get_or-set_other c.signals j k s no_signal other)
      ]

  removed : (j : ℕ) → j < length c.signals
      → IfSome (position_after (edits.Remove j) k) (IsLeft c k (record c { signals = remove c.signals j }))
  removed j there =
      let fewer = length-remove c.signals j there in
      elim (eqb_tells j k) [
        | inl same ↦ rw (same.0) tt
        | inr other ↦ rw (other.0) (elim (cases_lt j k) [
          | inl below ↦ rw (lt-ltb j k below) (unmoved (remove c.signals j) (k - 1) (omega (arith, fewer))
              (get_or-remove_above c.signals j no_signal (k - 1) (omega arith) there
              ∙ ap (λ n. signal_at c n) {x = k - 1 + 1} {y = k} (omega arith)))
          | inr above ↦ rw (le-ltb j k above) (unmoved (remove c.signals j) k (omega (arith, fewer, other.1))
              (get_or-remove_below c.signals j no_signal k (omega (arith, other.1)) there))
        ])
      ]

  -- an edit with its own signal leaves others
  elsewhere : (j : ℕ) (x : WaveEdit) (s : SignalContents) → then_some (j == k) x ≡ None
      → IsLeft c k (with_signal c j s) k
  elsewhere j x s none = replaced j s (λ same. absurd (other_position j k x none same))

  other_edit : (e : Edit) → edit_fault e c ≡ None → wave_edit_of e k ≡ None
      → IfSome (position_after e k) (IsLeft c k (effect e c))
  unfolding effect edit_fault
  other_edit (edits.Rename j word) none is = replaced j _ (λ same. rw same (refl, refl))
  other_edit (edits.Remove j) none is = removed j (grind (arith, nat_tests))
  other_edit (edits.Invert j) none is = elsewhere j Invert _ is
  other_edit (edits.Shift j by) none is = elsewhere j (Shift by) _ is
  other_edit (edits.Deglitch j ticks) none is = elsewhere j (Deglitch ticks) _ is
  other_edit (edits.Force j from to value) none is = elsewhere j (Force from to value) _ is
  other_edit (edits.Cut from to) none is = absurd (cc)
  other_edit (edits.Derive word rule) none is =
      let s : SignalContents = derived_signal word.now rule c in
      unmoved (push c.signals s) k (omega (arith, length_push c.signals s))
      (get_or_append_left c.signals (s ∷ []) no_signal k within)

module _ {V : Type 0} (pipeline : Pipeline V) (e : Edit) (c : Contents) (k : ℕ) (none : edit_fault e c ≡ None)
    (is : wave_edit_of e k ≡ None) where
  fits_left : (j : ℕ) → FitsSignal pipeline c k → IsLeft c k (effect e c) j → FitsSignal pipeline (effect e c) j
  fits_left j fits left =
      record { within = left.0; width = left.1.0 ∙ fits.width; end = left.2 ∙ fits.end }

  -- the pipeline fits the signal still
  pub fits_other : FitsSignal pipeline c k → IfSome (position_after e k) (FitsSignal pipeline (effect e c))
  fits_other fits =
      IfSome_then (position_after e k) (other_edit c k fits.within e none is) (λ j left. fits_left j fits left)

  -- and gives it
  pub gives_other : (letters : ℕ → V → List Bit) (fed : List Change) → GivesSignal letters pipeline fed c k
      → IfSome (position_after e k) (GivesSignal letters pipeline fed (effect e c))
  gives_other letters fed gives =
      IfSome_then (position_after e k) (other_edit c k gives.fits.within e none is)
      (λ j left. record { fits = fits_left j gives.fits left; gives = gives.gives ∙ sym left.1.1 })

-- ---- edits one after another

module _ (es : List Edit) (i : ℕ) (e : Edit) (within : i < length es) (at : e ≡ get_or es i e) where
  -- the next edit of those that are left
  pub next_between : (P Q : Contents → Type 0) (last : Contents)
      → ((d : Contents) → edit_fault e d ≡ None → P d → Q (effect e d)) → HoldsBetween (drop i es) last P
      → HoldsBetween (drop (i + 1) es) last Q
  next_between P Q last step between =
      let left = subst (λ (es : List Edit). HoldsBetween es last P) (drop_here es i e within at) between in
      record {
        capture = effect e left.capture;
        free = left.free.1;
        same = left.same;
        holds = step left.capture left.free.0 left.holds;
      }

  pub next_position : (k : ℕ)
      → position_after_all (drop i es) k ≡ option_and_then (position_after_all (drop (i + 1) es)) (position_after e k)
  next_position k = ap (λ (es : List Edit). position_after_all es k) (drop_here es i e within at)

-- after the last one
pub last_holds : (es : List Edit) (i : ℕ) (P : Contents → Type 0) (last : Contents) → length es ≤ i
    → HoldsBetween (drop i es) last P → P last
last_holds es i P last past between =
    let left = subst (λ (es : List Edit). HoldsBetween es last P) (drop_all i es past) between in
    subst P left.same left.holds
