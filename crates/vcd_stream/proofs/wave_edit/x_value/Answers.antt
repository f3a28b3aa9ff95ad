use Rattle.std.proofs.Common.{length, List, sym, ap, ◌∙◌}
use Rattle.std.proofs.lemmas.List.{length-replicate}
use Rattle.vcd_core.specs.declared.bit.Bit.{Bit}
use Rattle.vcd_core.specs.declared.bit.Bit.TheVariants.{X}
use Rattle.vcd_stream.proofs.wave_edit.x_value.Goals as goal

pub returns : goal.returns
returns g c =
    ap (λ w. g.V.Letters.letters w c.of_value.result)
    (sym (ap (λ (v : List Bit). length v) c.filled.ensures ∙ length-replicate c.args.width X))
    ∙ c.of_value.ensures ∙ c.filled.ensures
