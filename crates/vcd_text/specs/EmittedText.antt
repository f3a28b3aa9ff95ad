-- A text while it is written: its prefix was taken, and the rest waits in a buffer.
use Rattle.std.specs.Prelude.{◌≡◌, ◌≤◌, ◌-◌, ◌^◌, min, ℕ, false, List, ◌++◌, length, take, drop}
use Rattle.std.specs.Prelude.{Option}
use Rattle.std.specs.Io.KnownBytes.{Appends}
use Rattle.vcd_core.specs.declared.device.Sink as sinks
use Rattle.vcd_text.specs.declared.writing.output.Output.{Output}

-- writer and buffer together hold this text: the writer its first bytes, whose count stops at its
-- limit
pub record HasEmitted {W : Type 0} (sink : sinks.Ghosts W) (before : Option (List ℕ))
    (output : Output W) (text : List ℕ) : Type 0
  where
    pub sent : ℕ
    pub within : sent ≤ length text
    pub counted : output.sent_count ≡ min sent (2 ^ 128 - 1)
    pub prefix : Appends before (sink.taken output.writer.now) (take sent text)
    pub rest : sink.has_failed output.writer.now ≡ false → drop sent text ≡ output.unsent.items

-- whatever text an output held, it now holds it with `part` appended, and has the same writer
pub record Emits {W : Type 0} (sink : sinks.Ghosts W) (old new : Output W) (part : List ℕ) : Type 0
  where
    pub same_writer : new.writer.ghost_name ≡ old.writer.ghost_name
    pub appends : (before : Option (List ℕ)) (text : List ℕ) → HasEmitted sink before old text
        → HasEmitted sink before new (text ++ part)

-- the same for some part
pub record EmitsMore {W : Type 0} (sink : sinks.Ghosts W) (old new : Output W) : Type 0 where
  pub same_writer : new.writer.ghost_name ≡ old.writer.ghost_name
  pub part : List ℕ
  pub appends : (before : Option (List ℕ)) (text : List ℕ) → HasEmitted sink before old text
      → HasEmitted sink before new (text ++ part)
