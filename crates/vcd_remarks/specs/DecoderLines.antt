-- The lines of a command that decodes, in the order in which its edges have them: the project's
-- own.
use Rattle.std.specs.Prelude.{ℕ, Option, Some, None, List, [], ◌∷◌, map}
use Rattle.std.specs.Option.{option_map}
use Rattle.vcd_core.specs.declared.bit.Bit.{Bit}
use Rattle.vcd_core.specs.declared.bit_edges.BitEdge.{BitEdge}
use Rattle.vcd_core.specs.Contents.{Contents}
use Rattle.vcd_core.specs.Sound.{IsSound}
use Rattle.vcd_decode.specs.LineEdges.{AreEdgesOf}
use Rattle.vcd_edit.specs.Effect.{signal_bit}
use Rattle.vcd_script.specs.CommandSignals.{HasCommandSignals}
use Rattle.vcd_script.specs.declared.script.command.Command.{Command}
use Rattle.vcd_script.specs.declared.script.command.Command.TheVariants as commands

-- the positions of the four lines of a decoder, of which some are absent; no lines of another
-- command
abbrev pub decoder_lines : Command → List (Option ℕ)
decoder_lines (commands.Uart k setup) = Some k ∷ None ∷ None ∷ None ∷ []
decoder_lines (commands.Spi clk mosi miso cs setup) = Some clk ∷ mosi ∷ miso ∷ cs ∷ []
decoder_lines (commands.I2c scl sda) = Some scl ∷ Some sda ∷ None ∷ None ∷ []
decoder_lines command = []

-- the letters of the signals of one bit at these positions, where they are present
abbrev pub bit_lines : Contents → List (Option ℕ) → List (Option (ℕ → Bit))
bit_lines c ks = map (option_map (λ k. signal_bit c k 0)) ks

-- edges of the lines of a command that decodes, on a sound capture that has them
pub record AreEdgesFor (c : Contents) (command : Command) (edges : List BitEdge) : Type 0 where
  pub sound : IsSound c
  pub signals : HasCommandSignals c command
  pub shown : AreEdgesOf (bit_lines c (decoder_lines command)) c.end edges
