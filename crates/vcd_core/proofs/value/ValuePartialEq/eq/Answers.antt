use Rattle.std.proofs.Common.{sym, ◌∙◌, ap, ◌≡◌, ◌≤◌, ◌*◌, ℕ, List, take}
use Rattle.std.proofs.lemmas.Bool.Decides.{same_from_decides, Decides-like, Decides-and, Decides-eqb}
use Rattle.std.proofs.lemmas.Slice.Eq.{slice_eq-Decides}
use Rattle.vcd_core.specs.declared.bit.Bit.{Bit}
use Rattle.vcd_core.specs.declared.value.Value.TheInside.{Inside}
use Rattle.vcd_core.specs.inside.Planes.{view_value, letters_in}
use Rattle.vcd_core.specs.inside.value.EqualByLetters.{same_letters-Decides}
use Rattle.vcd_core.proofs.shared.LettersOfPlanes.{same_words, same_planes}
use Rattle.vcd_core.proofs.value.ValuePartialEq.eq.Goals as goal

-- values of one width with the same words in use have the same letters
same_view : (a b : Inside) (v w : List Bit) (m : ℕ) → view_value a ≡ v → view_value b ≡ w → a.width ≤ 64 * m
    → a.width ≡ b.width
    → take (2 * m) a.planes ≡ take (2 * m) b.planes → v ≡ w
unfolding view_value
same_view a b v w m shows_a shows_b fits width same =
    sym shows_a ∙ same_words a.width m a.planes b.planes fits same ∙ ap (λ n. letters_in n b.planes) width ∙ shows_b

pub returns : goal.returns
returns c =
    let fields = λ (e : c.args.self.now ≡ c.args.other.now). same_planes _ _ _ _ c.self.invariant c.other.invariant
    c.self.view_is c.other.view_is e in
    same_from_decides _ _
    (Decides-like _ (λ (width, same). same_view _ _ _ _ c.blocks_in-used.result c.self.view_is c.other.view_is
    c.blocks_in-used.ensures.fits width same)
    (λ e. (
      ap (λ (v : Inside). v.width) (fields e),
      ap (λ (v : Inside). take (2 * c.blocks_in-used.result) v.planes) (fields e),
    ))
    (Decides-and _ _ (Decides-eqb _ _) (slice_eq-Decides Decides-eqb _ _ _ c.eq-same.ensures)))
    (same_letters-Decides _ _)
