use Rattle.std.proofs.Common.{◌∷◌, [], ap, sym, ◌∙◌}
use Rattle.vcd_text.specs.Words.{word_on}
use Rattle.vcd_text.specs.inside.reading.Parser.{error_at}
use Rattle.vcd_text.proofs.reading.parser.NextWord.{words_taken, one_shown}
use Rattle.vcd_text.proofs.reading.parser.Parser.take_word.Goals as goal

pub returns-in-Ok-clause-words : goal.returns-in-Ok-clause-words
returns-in-Ok-clause-words c = λ limit asked words_so_far r. words_taken limit asked asked c.args.self.now
    c.take.new.self
    words_so_far (word_on c.args.text.now c.args.line ∷ []) r (c.in-Ok.ensures asked r.state r.begun r.at)

pub returns-in-Err-clause-words : goal.returns-in-Err-clause-words
returns-in-Err-clause-words c = λ limit asked words_so_far r more.
    let w = word_on c.args.text.now c.args.line in
    let is = ap (λ line. error_at line c.in-Err.fault) (sym c.item_fault_line-shown.ensures) ∙ sym c.at.ensures in
    rw is at (one_shown limit asked c.args.self.now words_so_far more w r c.in-Err.fault
    (c.in-Err.ensures asked r.state r.begun r.at))

pub returns-in-Ok-clause-step : goal.returns-in-Ok-clause-step
returns-in-Ok-clause-step c = c.in-Ok.ensures
