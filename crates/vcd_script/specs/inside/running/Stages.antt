-- A run that ends before its replies or its output, for any such writers.
use Rattle.std.specs.Prelude.{ℕ, Option, Err, IfSome}
use Rattle.vcd_core.specs.Devices.{DeviceEnd, IsUntouched}
use Rattle.vcd_script.specs.declared.running.run_error.RunError.{RunError}
use Rattle.vcd_script.specs.RunEnds.{RunEnds}

-- it ends before its output
abbrev pub EndsBeforeOutput : (depth : ℕ) → (capture script : DeviceEnd) → (replies : DeviceEnd)
    → RunError → Type 0
EndsBeforeOutput depth capture script replies e =
    (output : Option DeviceEnd) → IfSome output IsUntouched
    → RunEnds depth capture script replies output (Err e)

-- it ends before its replies
abbrev pub EndsBeforeReplies : (capture script : DeviceEnd) → RunError → Type 0
EndsBeforeReplies capture script e =
    (depth : ℕ) (replies : DeviceEnd) → IsUntouched replies
    → EndsBeforeOutput depth capture script replies e
