use Rattle.vcd_text.proofs.shared.Chunks.{nothing_taken}
use Rattle.vcd_text.proofs.reading.file_reader.FileReader.new.Goals as goal

pub returns : goal.returns
returns c = λ asked. nothing_taken c.args.limit c.args.most asked c.new.result c.new-2.result.bytes c.new-2.ensures
    c.requires (c.new.ensures asked)
