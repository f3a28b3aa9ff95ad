use Rattle.vcd_text.proofs.reading.change_stream.ChangeStream.skipped.Goals as goal

pub returns : goal.returns
returns c state (asked, at, listed) = at.variables.skipped
