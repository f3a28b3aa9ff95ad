-- What a comparison leaves out of a file, counted. The rules are the project's own.
use Rattle.std.specs.Prelude.{ℕ, ◌+◌, ◌==◌, ◌&&◌, Bool, false, List, [], ◌∷◌, if◌then◌else◌}
use Rattle.std.specs.List.{list_any}
use Rattle.vcd_text.specs.HeardChanges.{HeardChange}
use Rattle.vcd_text.specs.declared.reading.heard_changes.ChangeTarget.{ChangeTarget}
use Rattle.vcd_text.specs.declared.reading.heard_changes.ChangeTarget.TheVariants.{Kept, Skipped}
use Rattle.vcd_compare.specs.declared.left_out.LeftOut.{LeftOut}

-- whether two targets are one variable
abbrev pub same_target : ChangeTarget → ChangeTarget → Bool
same_target (Kept k) (Kept j) = k == j
same_target (Skipped k) (Skipped j) = k == j
same_target (Kept k) (Skipped j) = false
same_target (Skipped k) (Kept j) = false

-- whether a change is of a variable at a tick
abbrev pub is_change_at : ChangeTarget → (tick : ℕ) → HeardChange → Bool
is_change_at target tick h = same_target h.target target && (h.tick == tick)

-- how many of some changes are replaced: a later one is of the same variable at the same tick
unfoldable pub replaced_of : List HeardChange → ℕ
replaced_of [] = 0
replaced_of (h ∷ hs) =
    (if list_any (is_change_at h.target h.tick) hs then 1 else 0) + replaced_of hs

-- what is left out of a file of which this was heard
abbrev pub left_out_of : List HeardChange → LeftOut
left_out_of heard = record { replaced = replaced_of heard }
