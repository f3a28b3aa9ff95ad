-- The waves of a planned pair before the changes come.
use Rattle.std.proofs.Common.{◌≡◌, ℕ, max, min, List, sym, ◌∙◌, true, arith, Some}
use Rattle.std.specs.Prelude.{slice_get}
use Rattle.vcd_core.specs.declared.value.TheConstants.{WIDTH_LIMIT}
use Rattle.vcd_text.specs.Grammar.{VariableDeclaration, kept_variables}
use Rattle.vcd_compare.specs.inside.Outcomes.{AreComparable}
use Rattle.vcd_compare.specs.inside.Planning.{AreFirstWaves}
use Rattle.vcd_compare.specs.inside.SignalPair.{PairWaves, letters, words}
use Rattle.vcd_compare.specs.inside.Walk.{AreBegun, is_kept_at}
use Rattle.vcd_compare.specs.declared.wave_pair.Bounds.{Bounds}
use Rattle.vcd_compare.proofs.variables.Positions.{kept_size}

-- the width of a signal is within the bounds of widths
pub width_kept : (ds : List VariableDeclaration) (k : ℕ) (d : VariableDeclaration) (width least bounded : ℕ)
    → slice_get (kept_variables ds) k ≡ Some d → width ≡ d.size → least ≡ max width 1 → bounded ≡ min least WIDTH_LIMIT
    → bounded ≡ d.size
width_kept ds k d width least bounded at is more less =
    let size = kept_size ds k d at in
    omega (arith, size.0, size.1, is, more, less)

pub begun_of : (bounds : Bounds) (ds es : List VariableDeclaration) (k j : ℕ) (are : AreComparable ds es k j)
    (width : ℕ) (waves : PairWaves) → (is_kept_at ds k ≡ true → width ≡ are.own.size)
    → AreFirstWaves bounds (is_kept_at ds k) width waves
    → AreBegun bounds (is_kept_at ds k) (is_kept_at es j) are.own are.partner width waves
begun_of bounds ds es k j are width (letters p) wide first = (
  first.0,
  sym are.one_kind ∙ first.0,
  sym (wide first.0),
  sym (are.one_size first.0) ∙ sym (wide first.0),
  first.1,
)
begun_of bounds ds es k j are width (words p) wide first = (first.0, sym are.one_kind ∙ first.0, first.1)
