-- What a run over bytes in memory gives, the headline without devices: the project's own.
use Rattle.std.specs.Prelude.{◌≡◌, ◌<◌, ◌≤◌, ℕ, zero, suc, List, [], length, take, Result, Ok}
use Rattle.std.specs.Prelude.{Err}
use Rattle.std.specs.List.{concat}
use Rattle.vcd_core.specs.declared.capture.TheConstants.{SIGNAL_LIMIT}
use Rattle.vcd_text.specs.Faults.{IsFileFault, IsPrefixAnswer}
use Rattle.vcd_text.specs.Meaning.{HasMeaning}
use Rattle.vcd_text.specs.declared.fault.Fault.TheVariants as faults
use Rattle.vcd_text.specs.declared.fault.ReadError.{ReadError}
use Rattle.vcd_text.specs.declared.reading.TheConstants.{FILE_LIMIT}
use Rattle.vcd_script.specs.declared.running.script_input.TheConstants.{SCRIPT_LIMIT}
use Rattle.vcd_script.specs.declared.running.run_on_bytes.RunTexts.{RunTexts}
use Rattle.vcd_script.specs.declared.running.run_on_bytes.RunRefusal.{RunRefusal}
use Rattle.vcd_script.specs.declared.running.run_on_bytes.RunRefusal.TheVariants.{Capture}
use Rattle.vcd_script.specs.declared.running.run_on_bytes.RunRefusal.TheVariants.{ScriptTooLarge}
use Rattle.vcd_script.specs.declared.running.run_on_bytes.RunRefusal.TheVariants.{NoMemory}
use Rattle.vcd_script.specs.declared.running.run_on_bytes.Stage.TheVariants.{Inputs, Line, Replies}
use Rattle.vcd_script.specs.declared.running.run_on_bytes.Stage.TheVariants.{Output}
use Rattle.vcd_script.specs.Run.{RunOutcome, IsRun}

-- why a capture file is refused: for its fault, or its length
pub data IsRefusedFile (file : List ℕ) (e : ReadError) : Type 0 where
  has_fault : length file ≤ FILE_LIMIT → IsFileFault SIGNAL_LIMIT file e.line e.fault →
      IsRefusedFile file e
  too_large : FILE_LIMIT < length file
      → IsPrefixAnswer SIGNAL_LIMIT (take FILE_LIMIT file) faults.TooLarge e → IsRefusedFile file e

-- both files are within their limits, and a run of them writes this
abbrev pub IsRunWithin : (file script : List ℕ) → (depth : ℕ) → RunOutcome → Type 0
IsRunWithin file script depth written =
    (length file ≤ FILE_LIMIT) × (length script ≤ SCRIPT_LIMIT) × IsRun file script depth written

-- what a run over the bytes of two files gives
abbrev pub RunGives : (file script : List ℕ) → (depth : ℕ) → Result RunTexts RunRefusal → Type 0
-- the texts are what the run writes
RunGives file script depth (Ok texts) = (written : RunOutcome)
    × IsRunWithin file script depth written
    × (texts.replies.items ≡ concat written.replies) × (texts.output.items ≡ written.output)
    × (texts.refused ≡ written.refused)
-- the capture file is refused for this
RunGives file script depth (Err (Capture e)) = IsRefusedFile file e
-- the capture file is within its limit and has a meaning, and the script is above its limit
RunGives file script depth (Err ScriptTooLarge) = (length file ≤ FILE_LIMIT)
    × HasMeaning SIGNAL_LIMIT file × (SCRIPT_LIMIT < length script)
-- memory ran out for the inputs: there are no replies, and nothing is said of the files
RunGives file script depth (Err (NoMemory Inputs replies)) = replies.items ≡ []
-- memory ran out at a line, counted from 1: the replies are those to the lines before it
RunGives file script depth (Err (NoMemory (Line zero) replies)) = ⊥
RunGives file script depth (Err (NoMemory (Line (suc before)) replies)) = (written : RunOutcome)
    × IsRunWithin file script depth written × (before < length written.replies)
    × (replies.items ≡ concat (take before written.replies))
-- memory ran out for the replies: none are given
RunGives file script depth (Err (NoMemory Replies replies)) = (written : RunOutcome)
    × IsRunWithin file script depth written × (replies.items ≡ [])
-- memory ran out for the output: all replies are given
RunGives file script depth (Err (NoMemory Output replies)) = (written : RunOutcome)
    × IsRunWithin file script depth written × (replies.items ≡ concat written.replies)
