use Rattle.std.proofs.Common.{◌≡◌, ◌∙◌, ◌+◌, w64, to_z, of_z, sym, subst, MatchOption, arith}
use Rattle.std.proofs.lemmas.Bool.{both_ways}
use Rattle.std.proofs.lemmas.Int.{to_z-of_z}
use Rattle.vcd_core.specs.inside.value.EqualByLetters.{same_letters-Decides}
use Rattle.vcd_core.specs.Splice.{moved_change}
use Rattle.vcd_edit.specs.inside.fitting.Adjacency.{MayComeNext}
use Rattle.vcd_edit.proofs.fitting.FittingPieces.{next_tells}
use Rattle.vcd_edit.proofs.fitting.adjacency.floor_after_next.Goals as goal

pub returns-then-eq : goal.returns-then-eq
returns-then-eq c = λ may.
    may.other ((same_letters-Decides c.args.change.now.value c.args.before.now).0 (sym c.eq.ensures ∙ c.if-eq.true))

pub returns : goal.returns
returns c =
    subst (λ by. MatchOption c.tick_after.result
    (MayComeNext by c.args.end c.args.floor c.args.before.now c.args.change.now → ⊥)
    (λ next. MayComeNext by c.args.end c.args.floor c.args.before.now c.args.change.now
    × (next ≡ (moved_change by c.args.change.now).tick + 1))) (to_z-of_z w64 c.args.by c.ranges.by)
    (next_tells (to_z w64 (of_z w64 c.args.by)) c.args.end c.args.floor c.args.before.now c.args.change.now
    c.tick_after.result
    (λ same. both_ways c.eq.result c.if-eq.false
    (c.eq.ensures ∙ (same_letters-Decides c.args.change.now.value c.args.before.now).1 same))
    (omega arith) c.tick_after.ensures)
