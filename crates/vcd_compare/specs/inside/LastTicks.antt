-- The last tick at which each variable of a file has changed.
use Rattle.std.specs.Prelude.{ℕ, List, if◌then◌else◌, fold, slice_index_or}
use Rattle.vcd_text.specs.HeardChanges.{HeardChange}
use Rattle.vcd_text.specs.declared.reading.heard_changes.ChangeTarget.{ChangeTarget}
use Rattle.vcd_text.specs.declared.reading.heard_changes.ChangeTarget.TheVariants.{Kept, Skipped}
use Rattle.vcd_compare.specs.LeftOut.{same_target}
use Rattle.vcd_compare.specs.declared.last_ticks.TheConstants.{NO_TICK}
use Rattle.vcd_compare.specs.declared.last_ticks.LastTicks.{LastTicks}

-- the tick of a variable as it is kept
abbrev pub tick_kept : LastTicks → ChangeTarget → ℕ
tick_kept l (Kept k) = slice_index_or l.kept.items k NO_TICK
tick_kept l (Skipped k) = slice_index_or l.skipped.items k NO_TICK

-- the tick of a variable after some changes, from that before them on
abbrev pub tick_after : (before : ℕ) → ChangeTarget → List HeardChange → ℕ
tick_after before target heard =
    fold (λ tick h. if same_target h.target target then h.tick else tick) before heard
