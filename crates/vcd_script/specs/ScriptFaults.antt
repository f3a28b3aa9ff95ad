-- Why a script could not be read: the project's own.
use Rattle.std.specs.Prelude.{◌≡◌, ◌<◌, zero, true, length, IfSome}
use Rattle.vcd_core.specs.Devices.{DeviceEnd}
use Rattle.vcd_script.specs.declared.running.script_input.TheConstants.{SCRIPT_LIMIT}
use Rattle.vcd_script.specs.declared.running.run_error.RunError.{RunError}
use Rattle.vcd_script.specs.declared.running.run_error.RunError.TheVariants as run_errors

-- the script is above its limit, its source failed, or memory ran out before the first line
abbrev pub ScriptFails : DeviceEnd → RunError → Type 0
ScriptFails script run_errors.ScriptTooLarge =
    IfSome script.before (λ bytes. SCRIPT_LIMIT < length bytes)
ScriptFails script run_errors.ScriptReadFault = script.has_failed ≡ true
ScriptFails script (run_errors.NoMemory zero) = Unit {0}
ScriptFails script e = ⊥
