use Rattle.std.proofs.Common.{◌≤◌, map, refl, arith}
use Rattle.vcd_core.specs.Contents.{Contents}
use Rattle.vcd_core.specs.CaptureContents.{contents}
use Rattle.vcd_edit.specs.Records.{piece_view}
use Rattle.vcd_edit.proofs.plans.CutPieces.{cut_ticks, cut_plan, cut_is_one_step}
use Rattle.vcd_edit.proofs.plans.cut.plan.Goals as goal

pub cut_pieces-requires-clause-not_empty : goal.cut_pieces-requires-clause-not_empty
cut_pieces-requires-clause-not_empty c =
    (cut_ticks c.args.from c.args.to (contents c.args.capture.now) c.requires.allowed).0

pub cut_pieces-requires-clause-small : goal.cut_pieces-requires-clause-small
cut_pieces-requires-clause-small c =
    let ticks = cut_ticks c.args.from c.args.to (contents c.args.capture.now) c.requires.allowed in
    omega (arith, ticks.1, c.requires.sound.end)

pub overflow_sub-result : goal.overflow_sub-result
overflow_sub-result c =
    omega (arith, (cut_ticks c.args.from c.args.to (contents c.args.capture.now) c.requires.allowed).0)

pub overflow_sub-result-2 : goal.overflow_sub-result-2
overflow_sub-result-2 c =
    let ticks = cut_ticks c.args.from c.args.to (contents c.args.capture.now) c.requires.allowed in
    omega (arith, ticks.0, ticks.1, c.end.ensures)

pub invariant_of-result : goal.invariant_of-result
invariant_of-result c =
    let d : Contents = contents c.args.capture.now in
    let ends : c.args.to ≤ d.end = (cut_ticks c.args.from c.args.to d c.requires.allowed).1 in
    cut_is_one_step d _ _ _ (map piece_view c.in_ok-pieces.pieces.items) _
    (c.in_ok-pieces.ensures d (rw (c.signals.ensures) refl) c.requires.sound ends)

pub returns : goal.returns
returns c =
    let d : Contents = contents c.args.capture.now in
    let ends : c.args.to ≤ d.end = (cut_ticks c.args.from c.args.to d c.requires.allowed).1 in
    rw (c.end.ensures) (cut_plan d c.args.from c.args.to (map piece_view c.in_ok-pieces.pieces.items) c.requires.sound
    c.requires.allowed
    (c.in_ok-pieces.ensures d (rw (c.signals.ensures) refl) c.requires.sound ends))
