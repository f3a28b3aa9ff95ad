use Rattle.vcd_text.proofs.reading.changes.ChangeWords.{no_stamp, stamp_goes_back, takes_stamp}
use Rattle.vcd_text.proofs.reading.parser.Parser.stamp.Goals as goal

pub returns-in_default : goal.returns-in_default
returns-in_default c line = no_stamp c.args.self.now c.args.self.now c.args.digits.now line c.requires.between
    c.requires.in_body c.in_default.ensures

pub returns-then-tick-self : goal.returns-then-tick-self
returns-then-tick-self c line = stamp_goes_back c.args.self.now c.args.self.now c.args.digits.now line c.in-Some.tick
    c.requires.between c.requires.in_body c.in-Some.ensures.0 c.in-Some.ensures.1 c.if-tick-self.true

pub returns : goal.returns
returns c line = takes_stamp c.args.self.now c.args.digits.now line c.in-Some.tick c.requires.between c.requires.in_body
    c.in-Some.ensures.0 c.in-Some.ensures.1 c.if-tick-self.false
