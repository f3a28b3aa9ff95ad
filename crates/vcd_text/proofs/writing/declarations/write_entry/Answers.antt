-- The keyword, the words and the end are the line.
use Rattle.std.proofs.Common.{◌∙◌}
use Rattle.vcd_text.specs.Items.{header_word}
use Rattle.vcd_text.proofs.shared.EmittedParts.{writes_line, writes_as}
use Rattle.vcd_text.proofs.writing.declarations.write_entry.Goals as goal

pub returns : goal.returns
returns g c = writes_line (header_word c.args.header.now.kind) c.args.header.now.words
    (writes_as (c.as_bytes.ensures.value ∙ c.header_keyword.ensures) c.write_bytes.ensures.written)
    (writes_as c.text.ensures c.write_bytes-2.ensures.written) c.write_end.ensures
