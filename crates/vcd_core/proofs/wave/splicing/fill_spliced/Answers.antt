use Rattle.std.proofs.Common.{◌≡◌, ◌++◌, take, drop, map, w64, ◌∙◌, arith}
use Rattle.std.proofs.lemmas.Int.{to_z-of_z}
use Rattle.std.proofs.lemmas.List.{length-drop, take_all}
use Rattle.vcd_core.specs.Splice.{moved_change, spliced_changes}
use Rattle.vcd_core.proofs.wave.splicing.fill_spliced.Goals as goal

pub returns-clause-changes : goal.returns-clause-changes
unfolding spliced_changes
returns-clause-changes c =
    let list = c.args.list.now in
    let rest : take c.loop-change.change-index (drop c.args.range.end list) ≡ drop c.args.range.end list =
    take_all _ _ (omega (arith, length-drop c.args.range.end list)) in
    c.loop-change.invariant.0
    ∙ (λ i. take c.args.range.start list ++ c.args.piece.now
    ++ map (moved_change (to_z-of_z w64 c.args.by c.ranges.by i)) (rest i))
