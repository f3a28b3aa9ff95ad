use Rattle.std.proofs.Common.{◌∙◌, ap}
use Rattle.vcd_amend.specs.inside.amending.HeldChanges.{last_held}
use Rattle.vcd_amend.proofs.amending.cut_amender.push_held.Goals as goal

pub returns : goal.returns
returns c = ap last_held c.in_ok-push.ensures.items ∙ c.in_ok-make_room.ensures c.args.change
