use Rattle.std.proofs.Common.{w64, ◌≡◌, pos, to_z, sym, ap, ◌∙◌}
use Rattle.std.proofs.lemmas.Int.{to_z-of_z}
use Rattle.vcd_core.proofs.shared.Splices.{list_stays}
use Rattle.vcd_core.proofs.wave.splicing.take_out.Goals as goal

pub returns-then-by-eq0-clause-changes : goal.returns-then-by-eq0-clause-changes
returns-then-by-eq0-clause-changes c =
    let none : c.args.by ≡ pos 0 = sym (to_z-of_z w64 c.args.by c.ranges.by) ∙ ap (to_z w64) c.if-by-eq0.true in
    list_stays c.args.changes.now.items c.args.from c.args.to c.args.by c.if-from-to.true none
