use Rattle.std.proofs.Common.{◌<◌, length, inr, arith}
use Rattle.std.proofs.lemmas.Bool.{eqb-false}
use Rattle.vcd_text.proofs.reading.declarations.DeclarationWords.{shows_no_size, takes_size}
use Rattle.vcd_text.proofs.reading.parser.Parser.begin_variable.Goals as goal

pub returns-in_default : goal.returns-in_default
returns-in_default c = λ line part state begun at.
    let m = c.args.self.now in
    let some : 0 < length m.words.items = grind (arith, eqb-false) in
    inr (shows_no_size m c.args.text.now c.requires.item some c.in_default.ensures part state begun at)

pub returns : goal.returns
returns c line =
    let m = c.args.self.now in
    let some : 0 < length m.words.items = grind (arith, eqb-false) in
    takes_size m c.args.text.now c.in-Some.size c.requires.item some c.in-Some.ensures.0 c.in-Some.ensures.1
    c.requires.word line
