use Rattle.std.proofs.Common.{◌∙◌, ap}
use Rattle.std.specs.Prelude.{is_some, bytes_eq}
use Rattle.vcd_part.specs.declared.code_uses.CodeUse.{CodeUse}
use Rattle.vcd_part.specs.PartPieces.{lasting_codes}
use Rattle.vcd_part.proofs.code_uses.LastingCodes.{found_if_any}
use Rattle.vcd_part.proofs.code_uses.CodeUses.lasts.Goals as goal

pub returns : goal.returns
returns c = λ r declared uses. c.is_some.ensures
    ∙ ap (λ (u : CodeUse). is_some u.index) (c.get.ensures r declared uses)
    ∙ found_if_any (bytes_eq c.args.code.now) (lasting_codes r declared)
