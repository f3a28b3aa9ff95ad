-- A reply that is fed with the edges of its lines, while the file is opened once more.
use Rattle.std.specs.Prelude.{◌≡◌, ◌⊎◌, ◌≤◌, ◌+◌, ◌++◌, ℕ, Bool, List, [], ◌∷◌, length, take}
use Rattle.std.specs.Prelude.{Option, Some, IfOk}
use Rattle.std.specs.List.{flat_map}
use Rattle.std.specs.Io.KnownBytes.{Appends}
use Rattle.vcd_core.specs.declared.bit_edges.BitEdge.{BitEdge}
use Rattle.vcd_core.specs.declared.capture.TheConstants.{SIGNAL_LIMIT}
use Rattle.vcd_core.specs.Contents.{Contents}
use Rattle.vcd_core.specs.Sound.{IsSound}
use Rattle.vcd_decode.specs.LineEdges.{AreEdgesOf}
use Rattle.vcd_remarks.specs.DecoderFindings.{decoder_remarks}
use Rattle.vcd_remarks.specs.DecoderLines.{decoder_lines, bit_lines}
use Rattle.vcd_remarks.specs.Remarks.{remarks_text}
use Rattle.vcd_script.specs.CommandSignals.{HasCommandSignals}
use Rattle.vcd_script.specs.DecoderReply.{uart_lines, spi_lines, i2c_lines}
use Rattle.vcd_script.specs.declared.script.command.Command.{Command}
use Rattle.vcd_script.specs.declared.script.command.Command.TheVariants as commands
use Rattle.vcd_text.specs.Meaning.{FileMeans}
use Rattle.vcd_amend_run.specs.AmendRunEnds.{counted}
use Rattle.vcd_amend_run.specs.declared.line_pass.PassFault.{PassFault}
use Rattle.vcd_amend_run.specs.declared.planned_lines.line_taken.LineTaken.{LineTaken}
use Rattle.vcd_amend_run.specs.declared.streamed_line.StreamedLine.{StreamedLine}
use Rattle.vcd_amend_run.specs.inside.LinePass.{HasLineEdges, StopsFor}

-- ---- a command that decodes

-- the text of the reply to it
abbrev pub decoded_text : Contents → Command → List ℕ
decoded_text c (commands.Uart k setup) = flat_map (λ line. line ++ 10 ∷ []) (uart_lines c k setup)
decoded_text c (commands.Spi clk mosi miso cs setup) =
    flat_map (λ line. line ++ 10 ∷ []) (spi_lines c clk mosi miso cs setup)
decoded_text c (commands.I2c scl sda) =
    flat_map (λ line. line ++ 10 ∷ []) (i2c_lines c scl sda)
decoded_text c command = []

-- fed with the edges of the lines of this command, up to this end, a reply is the reply to it
pub record IsReplyFor {F : Type 0} (text_left : F → List BitEdge → List ℕ)
    (remarks_left : F → List BitEdge → List (List ℕ)) (reply : F) (end : ℕ) (command : Command)
    : Type 0 where
  pub gives : (c : Contents) (edges : List BitEdge) → IsSound c → HasCommandSignals c command
      → c.end ≡ end → AreEdgesOf (bit_lines c (decoder_lines command)) end edges
      → (text_left reply edges ≡ decoded_text c command)
      × (remarks_left reply edges ≡ decoder_remarks c command)

-- the file means something, and what is heard of it for this line are edges of the lines of the
-- command on a capture of this end
pub record IsDecodedFrom (file : List ℕ) (s : StreamedLine) (end : ℕ) (command : Command)
    (c : Contents) : Type 0 where
  pub first : Contents
  pub skipped : ℕ
  pub means : FileMeans SIGNAL_LIMIT file first skipped
  pub sound : IsSound c
  pub signals : HasCommandSignals c command
  pub ends : c.end ≡ end
  pub decodes : length (decoder_lines command) ≡ 4
  pub edges : (edges : List BitEdge) → HasLineEdges file s edges
      → AreEdgesOf (bit_lines c (decoder_lines command)) end edges

module _ (shown : Option (List ℕ)) (s : StreamedLine) (end : ℕ) (command : Command)
    (before after : Option (List ℕ)) where
  -- all of the reply was taken, and its remarks are known
  abbrev pub DecodesCommand : LineTaken → Type 0
  DecodesCommand taken = (file : List ℕ) (c : Contents) → shown ≡ Some file
      → IsDecodedFrom file s end command c
      → Appends before after (decoded_text c command)
      × (taken.written ≡ counted (length (decoded_text c command)))
      × IfOk taken.remarks (λ text. text.items ≡ remarks_text s.number (decoder_remarks c command))

  -- so many bytes of it were taken
  abbrev pub StopsDecoding : (count : ℕ) → Type 0
  StopsDecoding count = (file : List ℕ) (c : Contents) → shown ≡ Some file
      → IsDecodedFrom file s end command c
      → (count ≤ length (decoded_text c command))
      × Appends before after (take count (decoded_text c command))

-- ---- any reply that is fed

-- of a reply by what is left of it for any edges
module _ {F : Type 0} (text_left : F → List BitEdge → List ℕ)
    (remarks_left : F → List BitEdge → List (List ℕ)) (shown : Option (List ℕ)) (s : StreamedLine)
    (reply : F) (before after : Option (List ℕ)) where
  -- it took the edges of its lines in the file; all of its text was taken, its remarks are known
  abbrev pub StreamsReply : LineTaken → Type 0
  StreamsReply taken = (file : List ℕ) → shown ≡ Some file → (edges : List BitEdge)
      × HasLineEdges file s edges × Appends before after (text_left reply edges)
      × (taken.written ≡ counted (length (text_left reply edges)))
      × IfOk taken.remarks (λ text. text.items ≡ remarks_text s.number (remarks_left reply edges))

  -- nothing was taken, or, if the file is accepted, so many bytes of the text
  abbrev pub StopsStreaming : (count : ℕ) → Type 0
  StopsStreaming count = ((count ≡ 0) × Appends before after [])
      ⊎ ((file : List ℕ) → shown ≡ Some file → (c : Contents) (skipped : ℕ)
      → FileMeans SIGNAL_LIMIT file c skipped → (edges : List BitEdge)
      × HasLineEdges file s edges × (count ≤ length (text_left reply edges))
      × Appends before after (take count (text_left reply edges)))

-- ---- the end of such a reply

-- this text was taken after `written` bytes, and the remarks are known
abbrev pub FinishesReply : (text : List ℕ) → (remarks : List (List ℕ)) → (number written : ℕ)
    → (before after : Option (List ℕ)) → LineTaken → Type 0
FinishesReply text remarks number written before after taken = Appends before after text
    × (taken.written ≡ counted (written + length text))
    × IfOk taken.remarks (λ told. told.items ≡ remarks_text number remarks)

-- so many bytes of it were taken
abbrev pub StopsFinishing : (text : List ℕ) → (written : ℕ) → (before after : Option (List ℕ))
    → (replies_failed : Bool) → PassFault → Type 0
StopsFinishing text written before after replies_failed e = (count : ℕ) × (count ≤ length text)
    × Appends before after (take count text)
    × StopsFor (λ _. ⊥) replies_failed (written + count) e
