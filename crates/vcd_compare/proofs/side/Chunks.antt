-- The changes of a chunk that are at hand, one after another.
use Rattle.std.proofs.Common.{◌≡◌, ℕ, suc, ◌<◌, ◌*◌, true, false, Bool, not, List, ◌∷◌, drop, length, refl, ap, sym}
use Rattle.std.proofs.Common.{◌∙◌, Some, arith, get_or}
use Rattle.std.proofs.lemmas.List.{length-drop}
use Rattle.std.specs.Prelude.{slice_get}
use Rattle.std.proofs.Math.Seq.{drop-cons}
use Rattle.std.proofs.lemmas.Option.{slice_get_within, get_or_from_slice_get}
use Rattle.vcd_text.specs.HeardChanges.{HeardChange}
use Rattle.vcd_compare.specs.inside.Side.{first_tick}

pub not-false : (b : Bool) → not b ≡ false → b ≡ true
not-false true is = refl
not-false false is = sym is

-- the change at a place is the first of those from there on
pub first_at : (k : ℕ) (hs : List HeardChange) (h : HeardChange) → slice_get hs k ≡ Some h
    → drop k hs ≡ h ∷ drop (suc k) hs
first_at k hs h at =
    drop-cons hs k h (slice_get_within hs k h at)
    ∙ ap (λ x. x ∷ drop (suc k) hs) (get_or_from_slice_get hs k h h at)

pub first_tick_at : (factor k : ℕ) (hs : List HeardChange) (h : HeardChange) → slice_get hs k ≡ Some h
    → first_tick factor (drop k hs) ≡ Some (h.tick * factor)
first_tick_at factor k hs h at = ap (first_tick factor) (first_at k hs h at)

drop-suc : (hs : List HeardChange) (k : ℕ) (h : HeardChange) (rest : List HeardChange) → k < length hs
    → drop k hs ≡ h ∷ rest → drop (suc k) hs ≡ rest
drop-suc hs k h rest within at = sym (ap (drop 1) (drop-cons hs k h within)) ∙ ap (drop 1) at

-- once the first of the changes at hand was taken, the others are at hand
pub next_at_hand : (hs : List HeardChange) (taken next : ℕ) (h : HeardChange) (rest : List HeardChange)
    → (taken < length hs → next ≡ suc taken) → drop taken hs ≡ h ∷ rest → drop next hs ≡ rest
next_at_hand hs taken next h rest goes_on at =
    let long : length (drop taken hs) ≡ suc (length rest) = ap length at in
    let within : taken < length hs = omega (arith, long, length-drop taken hs) in
    ap (λ k. drop k hs) (goes_on within) ∙ drop-suc hs taken h rest within at

-- the change at a place is the first of those at hand from there on
pub change_is : (hs : List HeardChange) (k : ℕ) (h g : HeardChange) (rest : List HeardChange) → slice_get hs k ≡ Some g
    → drop k hs ≡ h ∷ rest → g ≡ h
change_is hs k h g rest there at = ap (λ (l : List HeardChange). get_or l 0 g) (sym (first_at k hs g there) ∙ at)
