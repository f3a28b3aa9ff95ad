use Rattle.std.proofs.Common.{◌↔◌, IsTrue, ap, subst, sym, length, take, drop, arith}
use Rattle.vcd_core.specs.Wave.{IsWave}
use Rattle.vcd_edit.specs.Records.{piece_view}
use Rattle.vcd_edit.specs.inside.fitting.Adjacency.{JoinToWave}
use Rattle.vcd_edit.proofs.fitting.FittingPieces.{valid_tells}
use Rattle.vcd_edit.proofs.fitting.adjacency.is_valid_piece.Goals as goal

pub join_to_wave-requires-clause-form : goal.join_to_wave-requires-clause-form
join_to_wave-requires-clause-form c =
    subst (λ width. IsWave width c.changes-changes.result.now) (sym c.width.ensures.width)
    c.changes-changes.ensures.form

pub returns : goal.returns
returns c =
    let cs = c.args.wave.now.changes in
    let p = piece_view c.args.piece.now in
    let same = c.changes-changes.ensures.changes in
    let is : IsWave c.args.wave.now.width cs =
    subst (IsWave c.args.wave.now.width) same c.changes-changes.ensures.form in
    let tells : IsTrue c.join_to_wave.result
    ↔ JoinToWave c.args.wave.now.width c.args.end (take p.from cs) p.changes (drop p.to cs) p.by =
    subst (λ t. t) (λ i. IsTrue c.join_to_wave.result
    ↔ JoinToWave (c.width.ensures.width i) c.args.end (take p.from (same i)) p.changes (drop p.to (same i)) p.by)
    c.join_to_wave.ensures in
    let valid = valid_tells c.args.wave.now.width c.args.end cs p is c.requires (omega arith)
    (omega (arith, ap length same)) in
    ((λ yes. valid.0 (tells.0 yes)), (λ stands. tells.1 (valid.1 stands)))
