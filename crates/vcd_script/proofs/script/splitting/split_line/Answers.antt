use Rattle.std.proofs.Common.{sym, ◌∙◌}
use Rattle.vcd_script.proofs.script.FirstLine.{first_at, last_at}
use Rattle.vcd_script.proofs.script.splitting.split_line.Goals as goal

pub returns-in-Some : goal.returns-in-Some
returns-in-Some c =
    first_at c.args.script.now c.split_at.result.0.now c.split_at.result.1.now c.in-Some.rest.now c.line_len.result
    c.in-Some.field-0-0.now
    c.split_at.ensures.front c.split_at.ensures.back c.in-Some.ensures.cases.0 c.line_len.ensures.line
    c.line_len.ensures.ends

pub returns-in-None : goal.returns-in-None
returns-in-None c =
    last_at c.args.script.now c.split_at.result.0.now c.split_at.result.1.now c.line_len.result
    c.split_at.ensures.front c.split_at.ensures.back c.in-None.ensures.cases (sym c.is_empty.ensures
    ∙ c.if-is_empty.false) c.line_len.ensures.line
