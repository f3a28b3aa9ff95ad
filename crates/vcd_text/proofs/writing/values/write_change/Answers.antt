-- The part before the code, and the code, are the words.
use Rattle.vcd_text.proofs.writing.values.ShortForm.{words_of_value}
use Rattle.vcd_text.proofs.shared.EmittedParts.{writes_as, writes_both}
use Rattle.vcd_text.proofs.writing.values.write_change.Goals as goal

pub returns : goal.returns
returns g c = writes_as (words_of_value c.args.value.now c.args.code.now)
    (writes_both c.write_value_prefix.ensures c.write_bytes.ensures.written)
