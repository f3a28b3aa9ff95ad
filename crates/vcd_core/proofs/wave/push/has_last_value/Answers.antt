use Rattle.std.proofs.Common.{◌∙◌, ap}
use Rattle.vcd_core.specs.Value.{all_x, same_letters}
use Rattle.vcd_core.proofs.shared.Pushes.{last_value-split, last_value-none}
use Rattle.vcd_core.proofs.wave.push.has_last_value.Goals as goal

pub returns-in-Some : goal.returns-in-Some
returns-in-Some c = c.eq.ensures
    ∙ ap (same_letters c.args.value.now) (last_value-split _ _ _ _ (c.in-Some.ensures.cases.0))

pub returns-in-None : goal.returns-in-None
returns-in-None c = c.eq-in-None.ensures
    ∙ ap (same_letters c.args.value.now) (c.filled.ensures ∙ ap all_x c.width.ensures.width
    ∙ last_value-none _ _ c.in-None.ensures.cases)
