use Rattle.std.proofs.Common.{◌∙◌, sym}
use Rattle.vcd_text.proofs.shared.WordsByBytes.{after_by_bytes, words_by_bytes}
use Rattle.vcd_text.proofs.words.Words.new.Goals as goal

pub returns-clause-words : goal.returns-clause-words
returns-clause-words c = after_by_bytes 0 c.args.text.now ∙ sym (words_by_bytes c.args.text.now)
