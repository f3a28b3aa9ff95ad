use Rattle.vcd_text.specs.inside.reading.Part.{seen_state}
use Rattle.vcd_text.proofs.reading.change_stream.ChangeStream.signals.Goals as goal

pub returns : goal.returns
returns c state (asked, at, listed) =
    c.declared_signals.ensures (seen_state c.args.self.now.reader.parser.part state at.seen) at.variables
