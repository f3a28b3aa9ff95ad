use Rattle.std.proofs.Common.{arith}
use Rattle.vcd_script.proofs.replies.PrintedSignals.{signal_printed, signals_printed}
use Rattle.vcd_script.proofs.replies.listing.append_signal_lines.Goals as goal

pub loop-position-preserved : goal.loop-position-preserved
loop-position-preserved c =
    signal_printed c.loop-position.position c.args.signals.now c.index-signals-position.result
    c.loop-position.text.items c.append_signal_line.new.text.items _
    (omega arith) c.index-signals-position.is c.in_ok-append_signal_line.ensures c.loop-position.invariant

pub returns : goal.returns
returns c = signals_printed c.loop-position.position c.args.signals.now c.loop-position.text.items _ (omega arith)
    c.loop-position.invariant
