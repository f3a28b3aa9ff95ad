-- Edges of the lines of a command that decodes.
use Rattle.std.proofs.Common.{◌≡◌, ℕ, List, sym, subst}
use Rattle.vcd_core.specs.declared.bit_edges.BitEdge.{BitEdge}
use Rattle.vcd_core.specs.Contents.{Contents}
use Rattle.vcd_core.specs.Sound.{IsSound}
use Rattle.vcd_decode.specs.LineEdges.{AreEdgesOf}
use Rattle.vcd_remarks.specs.DecoderLines.{decoder_lines, bit_lines, AreEdgesFor}
use Rattle.vcd_script.specs.CommandSignals.{HasCommandSignals}
use Rattle.vcd_script.specs.declared.script.command.Command.{Command}

pub edges_for : (c : Contents) (command : Command) (edges : List BitEdge) (end : ℕ) → IsSound c
    → HasCommandSignals c command → c.end ≡ end → AreEdgesOf (bit_lines c (decoder_lines command)) end edges
    → AreEdgesFor c command edges
edges_for c command edges end sound signals ends are = record {
  sound = sound;
  signals = signals;
  shown = subst (λ n. AreEdgesOf (bit_lines c (decoder_lines command)) n edges) (sym ends) are;
}
