use Rattle.vcd_text.specs.inside.reading.Part.{unheard}
use Rattle.vcd_text.proofs.reading.change_stream.StreamedFile.{nothing_streamed}
use Rattle.vcd_text.proofs.reading.change_stream.ChangeStream.new.Goals as goal

pub returns : goal.returns
returns c = λ coming. nothing_streamed coming _ (c.new.ensures unheard) c.new-2.ensures.skipped
