-- What a file has had of an amended code.
use Rattle.std.specs.Prelude.{◌≡◌, ℕ, Bool, not, ◌<◌, ◌≤◌, List, length, slice_index_or}
use Rattle.std.specs.Prelude.{Option, Some, None, is_some, unwrap_or, false, ◌==◌}
use Rattle.std.specs.Prelude.{if◌then◌else◌}
use Rattle.std.specs.Option.{option_map}
use Rattle.vcd_text.specs.Grammar.{ParseState, is_skipped, variable_of}
use Rattle.vcd_text.specs.inside.writing.Transitions.{Transition}
use Rattle.vcd_amend.specs.Amendment.{AmendedCode}
use Rattle.vcd_amend.specs.AmendedItems.{file_has_change}
use Rattle.vcd_amend.specs.inside.amending.DueChanges.{is_last, no_code}
use Rattle.vcd_amend.specs.declared.amending.code_progress.CodeProgress.{CodeProgress}

-- before the first variable of a code
abbrev pub no_progress : CodeProgress
no_progress = record { is_kept = None; changed_at = None }

-- this is what a file with this state has had of an amended code
pub record ProgressMatches (s : ParseState) (c : AmendedCode) (p : CodeProgress) : Type 0 where
  pub kept : p.is_kept ≡ option_map (λ d. not (is_skipped d)) (variable_of s c.code)
  pub passed : (t : ℕ) → p.changed_at ≡ Some t → t ≤ s.tick
  pub changes : (t : ℕ) → s.tick ≤ t → file_has_change s c.code t ≡ is_last p.changed_at t

-- the same of each of them
pub record AllProgressMatches (s : ParseState) (cs : List AmendedCode) (ps : List CodeProgress)
    : Type 0 where
  pub count : length ps ≡ length cs
  pub each : (k : ℕ) → k < length cs
      → ProgressMatches s (slice_index_or cs k no_code) (slice_index_or ps k no_progress)

-- whether the last change of the code of a due change is at another tick
abbrev pub is_open_by : List CodeProgress → Transition → Bool
is_open_by ps m = not (is_last (slice_index_or ps m.position no_progress).changed_at m.tick)

-- after a variable of the code
abbrev pub noted_variable : (is_kept : Bool) → CodeProgress → CodeProgress
noted_variable is_kept p =
    record p { is_kept = if is_some p.is_kept then p.is_kept else Some is_kept }

-- after a change of the code
abbrev pub noted_change : (tick : ℕ) → CodeProgress → CodeProgress
noted_change tick p =
    record p { changed_at = if unwrap_or p.is_kept false then Some tick else p.changed_at }

-- whether this is the index of the amended code, if there is one
abbrev pub is_at_index : Option ℕ → ℕ → Bool
is_at_index None k = false
is_at_index (Some index) k = k == index
