use Rattle.std.proofs.Common.{None, get_or, map, refl, arith}
use Rattle.std.proofs.lemmas.Grind.{common_steps}
use Rattle.std.proofs.lemmas.List.{map-append}
use Rattle.vcd_amend.specs.AmendmentContents.{code_contents}
use Rattle.vcd_amend.specs.inside.coding.ChangedWaves.{kept_contents}
use Rattle.vcd_amend.proofs.coding.FatesByIndex.{more_fates}
use Rattle.vcd_amend.proofs.coding.fates.fates.Goals as goal

pub loop-position-preserved : goal.loop-position-preserved
loop-position-preserved c =
    let more = more_fates kept_contents (map code_contents c.args.codes.now) c.args.kept.now c.args.indices.now
    c.loop-position.position _ (get_or c.args.indices.now c.loop-position.position None) (omega arith) (omega arith)
    c.index-kept-position.is refl in
    grind (arith, common_steps, map-append, more)
