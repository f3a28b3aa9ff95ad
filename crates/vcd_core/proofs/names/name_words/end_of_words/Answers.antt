use Rattle.std.proofs.Common.{[], ◌∷◌, ap, ◌∙◌}
use Rattle.vcd_core.specs.inside.names.TextEnd.{text_end}
use Rattle.vcd_core.proofs.shared.FullNames.{name_in-none}
use Rattle.vcd_core.proofs.names.name_words.end_of_words.Goals as goal

pub returns : goal.returns
returns c = c.end.ensures ∙ ap text_end (c.new.ensures ∙ name_in-none ([] ∷ c.args.words.now))
