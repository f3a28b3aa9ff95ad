use Rattle.std.proofs.Common.{ℕ, List, ap}
use Rattle.std.specs.Global.{Vec}
use Rattle.vcd_text.proofs.reading.parser.SkippedCount.{few_declared}
use Rattle.vcd_text.proofs.reading.declarations.DeclarationWords.{closes_variable, shows_no_variable}
use Rattle.vcd_text.proofs.reading.parser.Parser.close_variable.Goals as goal

pub declare-requires : goal.declare-requires
declare-requires c = record { few = few_declared c.args.self.now c.requires.reading }

pub returns-in_err-declare : goal.returns-in_err-declare
returns-in_err-declare c = shows_no_variable c.args.self.now _ c.from_residual.result c.in_err-declare.field-0.0
    c.declare.new.self c.replace-words.result.items (ap (λ (v : Vec (List ℕ)). v.items) c.replace-words.ensures.value)
    c.in_err-declare.ensures c.requires.item c.from_residual.ensures.1

pub returns : goal.returns
returns c = closes_variable c.args.self.now c.declare.new.self c.replace-words.result.items c.replace-words.new.dest
    (ap (λ (v : Vec (List ℕ)). v.items) c.replace-words.ensures.value) c.in_ok-declare.ensures c.requires.item
