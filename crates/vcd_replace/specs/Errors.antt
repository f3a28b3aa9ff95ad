-- Why an output is not begun, or not put in its place: the project's own.
use Rattle.std.specs.Prelude.{◌≡◌, ◌⊎◌, Option, IsSome}
use Rattle.std.specs.declared.io.Error.{Error}
use Rattle.vcd_replace.specs.declared.replace_error.ReplaceError.{ReplaceError}
use Rattle.vcd_replace.specs.declared.replace_error.ReplaceError.TheVariants as errors

-- why an output is not begun: anything but a capture that has changed
abbrev pub IsEarlyError : ReplaceError → Type 0
IsEarlyError errors.CaptureChanged = ⊥
IsEarlyError _ = Unit {0}

-- there is a capture, and it has changed
abbrev pub IsChange : {S : Type 0} → (capture : Option S) → ReplaceError → Type 0
IsChange capture e = (e ≡ errors.CaptureChanged) × IsSome capture

-- why one that is begun is not put in its place: the capture has changed, or the system refuses
abbrev pub IsLateError : {S : Type 0} → (capture : Option S) → ReplaceError → Type 0
IsLateError capture e = IsChange capture e ⊎ ((error : Error) × (e ≡ errors.System error))
