use Rattle.std.proofs.Common.{◌∙◌}
use Rattle.vcd_text.proofs.reading.change_stream.ChangeStream.skipped_variables.Goals as goal

pub returns : goal.returns
returns c state (asked, at, listed) = c.as_slice.ensures.value ∙ listed.list
