use Rattle.vcd_script.specs.declared.script.command.Command.TheVariants as commands
use Rattle.vcd_amend_run.proofs.planned_lines.LinesOfCommand.{edges_for}
use Rattle.vcd_amend_run.proofs.planned_lines.decoder_replies.spi_reply.Goals as goal

pub returns : goal.returns
returns c = λ end. record {
  gives = λ x edges sound signals ends are.
      let bus = c.args.bus.now in
      let shown = edges_for x (commands.Spi bus.clk bus.mosi bus.miso bus.cs bus.setup) edges _ sound signals ends
      are in
      (c.spi_reply.ensures.text x edges shown, c.spi_reply.ensures.remarks x edges shown);
}
