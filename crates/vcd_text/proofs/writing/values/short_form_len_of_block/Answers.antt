-- The highest bit that is set is that of the last letter to stay.
use Rattle.std.proofs.Common.{◌-◌, arith}
use Rattle.std.proofs.Math.Pow.{pow-lt}
use Rattle.vcd_text.proofs.writing.values.LetterBits.{short_form_len_is}
use Rattle.vcd_text.proofs.writing.values.short_form_len_of_block.Goals as goal

pub returns : goal.returns
returns c = short_form_len_is c.args.count c.args.block c.needed_letters.result _ c.requires.least c.requires.most
    (omega arith) (omega (arith, pow-lt {i = c.args.count - 1} {j = 64} (omega arith))) c.needed_letters.ensures
