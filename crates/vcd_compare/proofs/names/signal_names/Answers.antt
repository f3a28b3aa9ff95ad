use Rattle.std.proofs.Common.{◌∙◌, ap, arith}
use Rattle.std.proofs.lemmas.List.{take_all}
use Rattle.vcd_core.specs.Names.{full_names}
use Rattle.vcd_text.specs.inside.reading.DeclaredSignals.{declared_contents}
use Rattle.vcd_compare.specs.inside.Pairing.{texts}
use Rattle.vcd_compare.proofs.names.Texts.{more_names}
use Rattle.vcd_compare.proofs.names.signal_names.Goals as goal

pub loop-position-preserved : goal.loop-position-preserved
loop-position-preserved c =
    ap texts c.in_ok-push.ensures.items
    ∙ more_names (declared_contents c.args.signals.now) c.loop-position.position _ c.loop-position.names.items _
    c.loop-position.invariant c.get.ensures c.in_ok-name_of.ensures

pub returns : goal.returns
returns c =
    c.loop-position.invariant
    ∙ ap full_names (take_all c.loop-position.position (declared_contents c.args.signals.now) (omega arith))
