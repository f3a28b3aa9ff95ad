use Rattle.vcd_script.specs.declared.script.command.Command.TheVariants as commands
use Rattle.vcd_amend_run.proofs.planned_lines.LinesOfCommand.{edges_for}
use Rattle.vcd_amend_run.proofs.planned_lines.decoder_replies.i2c_reply.Goals as goal

pub returns : goal.returns
returns c = λ end scl sda. record {
  gives = λ x edges sound signals ends are.
      let shown = edges_for x (commands.I2c scl sda) edges _ sound signals ends are in
      (c.i2c_reply.ensures.text x scl sda edges shown, c.i2c_reply.ensures.remarks x scl sda edges shown);
}
