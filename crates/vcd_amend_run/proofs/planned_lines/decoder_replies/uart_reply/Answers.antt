use Rattle.vcd_script.specs.declared.script.command.Command.TheVariants as commands
use Rattle.vcd_amend_run.proofs.planned_lines.LinesOfCommand.{edges_for}
use Rattle.vcd_amend_run.proofs.planned_lines.decoder_replies.uart_reply.Goals as goal

pub returns : goal.returns
returns c = λ k. record {
  gives = λ x edges sound signals ends are.
      let shown = edges_for x (commands.Uart k c.args.setup.now) edges _ sound signals ends are in
      (c.uart_reply.ensures.text x k edges ends shown, c.uart_reply.ensures.remarks x k edges ends shown);
}
