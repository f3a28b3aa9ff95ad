use Rattle.std.proofs.Common.{[], ◌∷◌, append-nil, ◌∙◌}
use Rattle.vcd_core.proofs.shared.FullNames.{name_in-none}
use Rattle.vcd_core.proofs.names.full_name.FullName.of_text.Goals as goal

pub returns : goal.returns
returns c = c.new.ensures ∙ name_in-none (c.args.text.now ∷ []) ∙ append-nil c.args.text.now
