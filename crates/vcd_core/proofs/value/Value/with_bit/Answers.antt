use Rattle.std.proofs.Common.{sym, ◌∙◌, ap, arith, ◌≡◌, ◌≢◌, ◌<◌, ◌-◌, ℕ, List, length, inl, inr}
use Rattle.std.proofs.Math.ListN.{set}
use Rattle.std.proofs.lemmas.List.{length-set}
use Rattle.std.proofs.lemmas.Bool.{cases_eq}
use Rattle.vcd_core.specs.declared.bit.Bit.{Bit}
use Rattle.vcd_core.specs.Value.{letter_at}
use Rattle.vcd_core.specs.BlockRows.{low_of, high_of}
use Rattle.vcd_core.specs.inside.Planes.{view_value, plane_bit}
use Rattle.vcd_core.proofs.shared.LettersOfPlanes.{letters_in-shown, letter_at-set_same, letter_at-set_other}
use Rattle.vcd_core.proofs.shared.LettersOfPlanes.{length-shown, bit-shown, in_planes}
use Rattle.vcd_core.proofs.value.Value.with_bit.Goals as goal

-- a plane after the write has the bits of the letters after the write
plane_written : (plane : ℕ) (f : Bit → ℕ) (v : List Bit) (k : ℕ) (b : Bit) (old new : List ℕ) (bit : ℕ) → k < length v
    → f b ≡ bit → plane_bit plane new k ≡ bit → ((i : ℕ) → (i ≡ k → ⊥) → plane_bit plane new i ≡ plane_bit plane old i)
    → ((i : ℕ) → i < length v → plane_bit plane old i ≡ f (letter_at v i))
    → (i : ℕ) → i < length v → plane_bit plane new i ≡ f (letter_at (set v (length v - 1 - k) b) i)
plane_written plane f v k b old new bit within is at others shown i inside =
    elim (cases_eq i k) [
      | inl here ↦ ap (plane_bit plane new) here ∙ at ∙ sym is
          ∙ sym (ap f (ap (letter_at (set v (length v - 1 - k) b)) here ∙ letter_at-set_same v k b within))
      | inr apart ↦ others i apart ∙ shown i inside ∙ sym (ap f (letter_at-set_other v k i b within inside apart))
    ]

pub write_plane_bit-requires-clause-within : goal.write_plane_bit-requires-clause-within
write_plane_bit-requires-clause-within c = in_planes _ _ c.self.invariant c.self.view_is 0 _ (omega arith) c.requires

pub write_plane_bit-requires-2-clause-within : goal.write_plane_bit-requires-2-clause-within
write_plane_bit-requires-2-clause-within c =
    omega (
      arith,
      c.write_plane_bit.ensures.sized,
      in_planes _ _ c.self.invariant c.self.view_is 1 _ (omega arith) c.requires,
    )

pub invariant_of-result : goal.invariant_of-result
invariant_of-result c =
    let within = length-shown _ _ c.self.invariant c.self.view_is in
    let first = c.write_plane_bit.ensures in
    let second = c.write_plane_bit-2.ensures in
    record {
      least = c.self.invariant.least;
      most = c.self.invariant.most;
      planes = record {
        sized = second.sized ∙ first.sized ∙ c.self.invariant.planes.sized;
        small = c.words_fit.ensures;
        clear = λ plane i which out below.
            let apart : i ≢ c.args.k = omega (arith, c.requires, within) in
            second.others plane i which (λ _. apart) ∙ first.others plane i which (λ _. apart)
            ∙ c.self.invariant.planes.clear plane i which out below;
      };
    }

pub returns : goal.returns
unfolding view_value
returns c =
    let v : List Bit = c.args.self in
    let long = length-shown v _ c.self.invariant c.self.view_is in
    let shown = bit-shown v _ c.self.invariant c.self.view_is in
    let first = c.write_plane_bit.ensures in
    let second = c.write_plane_bit-2.ensures in
    let others = λ (plane : ℕ) (which : plane < 2) (i : ℕ) (apart : i ≡ c.args.k → ⊥).
    second.others plane i which (λ _. apart) ∙ first.others plane i which (λ _. apart) in
    letters_in-shown (set v (length v - 1 - c.args.k) c.args.bit) _ _ (sym (length-set v _ _ ∙ long))
    (λ i within. plane_written 0 low_of v c.args.k c.args.bit _ _ _ c.requires c.has_low_bit.ensures
    (second.others 0 c.args.k (omega arith) (λ e. absurd (omega arith)) ∙ first.at) (others 0 (omega arith))
    (λ i below. shown 0 i (omega arith) below) i (omega (arith, long)))
    (λ i within. plane_written 1 high_of v c.args.k c.args.bit _ _ _ c.requires c.has_high_bit.ensures second.at
    (others 1 (omega arith)) (λ i below. shown 1 i (omega arith) below) i (omega (arith, long)))
