use Rattle.std.proofs.Common.{sym, ◌∙◌, length, arith}
use Rattle.std.proofs.lemmas.Bool.{eqb-true, eqb-false}
use Rattle.vcd_text.proofs.reading.changes.ChangeWords.{no_code, sets_bit}
use Rattle.vcd_text.proofs.reading.parser.Parser.take_scalar_change.Goals as goal

pub returns-then-is_empty : goal.returns-then-is_empty
returns-then-is_empty c line = no_code c.args.self.now c.args.self.now c.args.digit c.args.code.now line
    c.requires.between c.requires.in_body c.requires.digit (eqb-true (length c.args.code.now) 0
    (sym c.is_empty.ensures ∙ c.if-is_empty.true))

pub returns : goal.returns
returns c line =
    let other = eqb-false (length c.args.code.now) 0 (sym c.is_empty.ensures ∙ c.if-is_empty.false) in
    sets_bit c.args.self.now c.change.new.self c.args.digit c.args.code.now line c.change.result c.requires.between
    c.requires.in_body c.requires.digit
    (omega (arith, other))
    (λ d ticks knows. rw c.as_slice-silent.ensures.value at (rw c.as_slice.ensures at (c.change.ensures d ticks knows)))
