-- Both paths are `-`.
use Rattle.std.proofs.Common.{◌≡◌, ◌∙◌, true, false, List, ℕ, inl, inr, refl, ap, codes}
use Rattle.std.specs.Prelude.{bytes_eq, not}
use Rattle.std.proofs.lemmas.Bool.{cases_Bool}
use Rattle.std.proofs.lemmas.Slice.Eq.{bytes_eq-Decides}
use Rattle.vcd_compare_program.proofs.program.refuse_two_standard.Goals as goal

is_standard : (path : List ℕ) → false ≡ not (bytes_eq path (codes "-")) → path ≡ codes "-"
is_standard path is =
    elim (cases_Bool (bytes_eq path (codes "-"))) [
      | inl same ↦ (bytes_eq-Decides path (codes "-")).0 same
      | inr other ↦ absurd (let h : false ≡ true = is ∙ ap not other in cc)
    ]

pub returns : goal.returns
returns c = (
  refl,
  is_standard c.args.asked.now.first.now c.if-ne.ensures,
  is_standard c.args.asked.now.second.now c.if-ne-2.ensures,
)
