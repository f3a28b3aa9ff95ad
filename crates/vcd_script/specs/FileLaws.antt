-- Laws of runs, said of the files' bytes: the contracts of the functions of `laws`.
use Rattle.std.specs.Prelude.{◌≡◌, ℕ, ◌-◌, ◌<◌, ◌≤◌, List, length, Result, Ok, Err}
use Rattle.vcd_core.specs.Contents.{Contents}
use Rattle.vcd_core.specs.declared.capture.TheConstants.{SIGNAL_LIMIT}
use Rattle.vcd_text.specs.Meaning.{FileMeans}
use Rattle.vcd_text.specs.Text.{text}
use Rattle.vcd_edit.specs.declared.edit.Edit.TheVariants.{Cut}
use Rattle.vcd_edit.specs.Effect.{effect}
use Rattle.vcd_edit.specs.EffectLaws.{value_of}
use Rattle.vcd_script.specs.declared.running.run_on_bytes.RunTexts.{RunTexts}
use Rattle.vcd_script.specs.declared.running.run_on_bytes.RunRefusal.{RunRefusal}
use Rattle.vcd_script.specs.declared.running.run_on_bytes.RunRefusal.TheVariants.{Capture}
use Rattle.vcd_script.specs.declared.running.run_on_bytes.RunRefusal.TheVariants.{ScriptTooLarge}
use Rattle.vcd_script.specs.declared.running.run_on_bytes.RunRefusal.TheVariants.{NoMemory}
use Rattle.vcd_script.specs.RunOnBytes.{RunGives}

-- if only the first ticks are cut out, the written file, read again, has the waves from there on
abbrev pub CutFileIsReadAgain : Type 0
CutFileIsReadAgain =
    (file : List ℕ) (c d : Contents) (skipped left_out from k t : ℕ)
    → FileMeans SIGNAL_LIMIT file c skipped → 0 < from → from ≤ c.end
    → FileMeans SIGNAL_LIMIT (text (effect (Cut 0 from) c)) d left_out
    → k < length c.signals → from ≤ t → t ≤ c.end
    → value_of d k (t - from) ≡ value_of c k t

-- two results are the same, or memory ran out in one of them; the room of texts is not compared
abbrev pub AreSameButForMemory : (one other : Result RunTexts RunRefusal) → Type 0
AreSameButForMemory (Err (NoMemory stage replies)) other = Unit {0}
AreSameButForMemory one (Err (NoMemory stage replies)) = Unit {0}
AreSameButForMemory (Ok one) (Ok other) = (one.replies.items ≡ other.replies.items)
    × (one.output.items ≡ other.output.items) × (one.refused ≡ other.refused)
AreSameButForMemory (Err (Capture e)) (Err (Capture other)) = e ≡ other
AreSameButForMemory (Err ScriptTooLarge) (Err ScriptTooLarge) = Unit {0}
AreSameButForMemory one other = ⊥

-- apart from memory, the bytes of two files and the depth have one result
abbrev pub SameBytesSameResult : Type 0
SameBytesSameResult =
    (file script : List ℕ) (depth : ℕ) (one other : Result RunTexts RunRefusal)
    → RunGives file script depth one → RunGives file script depth other
    → AreSameButForMemory one other
