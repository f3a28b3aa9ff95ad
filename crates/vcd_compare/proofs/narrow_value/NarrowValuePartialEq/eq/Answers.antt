use Rattle.std.proofs.Common.{sym, ◌∙◌, ap, ◌≡◌, List, [], ◌∷◌}
use Rattle.std.proofs.lemmas.Bool.Decides.{same_from_decides, Decides-like, Decides-and, Decides-eqb}
use Rattle.vcd_core.specs.declared.bit.Bit.{Bit}
use Rattle.vcd_core.specs.BlockRows.{letters_of}
use Rattle.vcd_core.specs.inside.value.EqualByLetters.{same_letters-Decides}
use Rattle.vcd_compare.specs.declared.narrow_value.NarrowValue.TheInside.{Inside}
use Rattle.vcd_compare.specs.inside.NarrowValue.{view_narrow, narrow_of, IsNarrow, narrow_of-view_narrow}
use Rattle.vcd_compare.proofs.narrow_value.NarrowValuePartialEq.eq.Goals as goal

-- values with the same letters have the same fields
same_fields : (a b : Inside) (v w : List Bit) → IsNarrow a → IsNarrow b → view_narrow a ≡ v → view_narrow b ≡ w → v ≡ w
    → a ≡ b
same_fields a b v w is_a is_b shows_a shows_b same =
    sym (narrow_of-view_narrow a is_a) ∙ ap narrow_of (shows_a ∙ same ∙ sym shows_b) ∙ narrow_of-view_narrow b is_b

same_view : (a b : Inside) (v w : List Bit) → view_narrow a ≡ v → view_narrow b ≡ w → a.width ≡ b.width
    → a.block.low ≡ b.block.low → a.block.high ≡ b.block.high → v ≡ w
same_view a b v w shows_a shows_b width low high =
    sym shows_a ∙ (λ p. letters_of (width p) (record { low = low p; high = high p } ∷ [])) ∙ shows_b

pub returns : goal.returns
returns c =
    let fields = λ (e : c.args.self.now ≡ c.args.other.now). same_fields _ _ _ _ c.self.invariant c.other.invariant
    c.self.view_is c.other.view_is e in
    same_from_decides _ _
    (Decides-like _ (λ ((width, low), high). same_view _ _ _ _ c.self.view_is c.other.view_is width low high)
    (λ e. (
      (ap (λ (v : Inside). v.width) (fields e), ap (λ (v : Inside). v.block.low) (fields e)),
      ap (λ (v : Inside). v.block.high) (fields e),
    ))
    (Decides-and _ _ (Decides-and _ _ (Decides-eqb _ _) (Decides-eqb _ _)) (Decides-eqb _ _)))
    (same_letters-Decides _ _)
