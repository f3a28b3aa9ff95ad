use Rattle.std.proofs.Common.{◌∙◌}
use Rattle.std.specs.List.{concat}
use Rattle.vcd_core.specs.CaptureContents.{signal_contents}
use Rattle.vcd_core.specs.Names.{full_name}
use Rattle.vcd_core.specs.FullName.{name_bytes}
use Rattle.vcd_core.proofs.shared.FullNames.{name_in_ends, not_the_name}
use Rattle.vcd_core.proofs.names.full_name.FullName.is_name_of.Goals as goal

pub returns-else-may_end_with : goal.returns-else-may_end_with
returns-else-may_end_with c = λ end.
    let name = name_bytes c.args.self.now in
    let signal = c.args.signal.now in
    let ends = name_in_ends signal.scopes signal.words in
    c.if-may_end_with.false
    ∙ not_the_name name (full_name (signal_contents signal)) c.may_end_with.result c.if-may_end_with.false
    (λ same. c.may_end_with.ensures name ends.0 (concat signal.words) end c.end.ensures (same ∙ ends.1))
