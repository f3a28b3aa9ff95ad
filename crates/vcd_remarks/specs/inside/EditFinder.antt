-- What is found by an edit while the changes of its signal come one at a time.
use Rattle.std.specs.Prelude.{Bool, List, [], ◌∷◌, map}
use Rattle.std.specs.List.{filter, list_any}
use Rattle.vcd_core.specs.declared.wave.Change.{Change}
use Rattle.vcd_remarks.specs.declared.change_finders.ForceFinder.{ForceFinder}
use Rattle.vcd_remarks.specs.declared.change_finders.ShiftFinder.{ShiftFinder}
use Rattle.vcd_remarks.specs.declared.edit_finder.EditFinder.{EditFinder}
use Rattle.vcd_remarks.specs.declared.edit_finder.EditFinder.TheVariants.{Deglitch, Shift, Invert}
use Rattle.vcd_remarks.specs.declared.edit_finder.EditFinder.TheVariants.{Force, Other}
use Rattle.vcd_remarks.specs.declared.findings.finding.Finding.{Finding}
use Rattle.vcd_remarks.specs.declared.findings.finding_kind.FindingKind.TheVariants as kinds
use Rattle.vcd_remarks.specs.declared.findings.found_ticks.FoundTicks.{FoundTicks}
use Rattle.vcd_remarks.specs.EditFindings.{is_moved_past, is_moved_before_zero, is_z}
use Rattle.vcd_remarks.specs.EditFindings.{ticks_taken_out}
use Rattle.vcd_remarks.specs.inside.DeglitchFinder.{deglitch_left}
use Rattle.vcd_remarks.specs.inside.FoundTicks.{with_ticks, finding_at}

-- these ticks, and those of the changes to come that pass a test
abbrev pub passing_left : (Change → Bool) → FoundTicks → List Change → FoundTicks
passing_left test found cs = with_ticks found (map (λ c. c.tick) (filter test cs))

-- what will have been found by a `shift` after the changes to come
abbrev pub shift_left : ShiftFinder → List Change → List Finding
shift_left f cs =
    finding_at kinds.MovedPastEnd (passing_left (is_moved_past f.end f.by) f.past cs)
    ∷ finding_at kinds.MovedBeforeZero (passing_left (is_moved_before_zero f.by) f.early cs) ∷ []

-- and by a `force`
abbrev pub force_left : ForceFinder → List Change → List Finding
force_left f cs = finding_at kinds.ChangesTakenOut
    (with_ticks f.found (ticks_taken_out f.from f.to f.value f.before cs)) ∷ []

-- and by any edit
abbrev pub edit_findings_left : EditFinder → List Change → List Finding
edit_findings_left (Deglitch f) cs = deglitch_left f cs
edit_findings_left (Shift f) cs = shift_left f cs
edit_findings_left (Invert found) cs =
    finding_at kinds.InvertedZ (passing_left (λ c. list_any is_z c.value) found cs) ∷ []
edit_findings_left (Force f) cs = force_left f cs
edit_findings_left Other cs = []
