-- Worked cases: what is found by edits.
use Rattle.std.proofs.Common.{◌≡◌, refl}
use Rattle.std.specs.Prelude.{List, [], ◌∷◌, codes, pos, negsuc}
use Rattle.std.specs.List.{flat_map}
use Rattle.std.specs.Fmt.{digits}
use Rattle.vcd_core.specs.declared.bit.Bit.TheVariants.{Zero, One, X, Z}
use Rattle.vcd_core.specs.declared.wave.Change.{Change}
use Rattle.vcd_core.specs.Wave.{change}
use Rattle.vcd_edit.specs.declared.edit.Edit.TheVariants.{Invert, Shift, Deglitch, Force}
use Rattle.vcd_edit.proofs.worked.Records.{from, wire, capture, alone}
use Rattle.vcd_remarks.specs.declared.findings.finding_kind.FindingKind.TheVariants as kinds
use Rattle.vcd_remarks.specs.EditFindings.{gaps, delayed_edges, ticks_taken_out, edit_findings}
use Rattle.vcd_remarks.specs.Findings.{finding, span_finding, finding_text, words_in}
use Rattle.vcd_remarks.specs.FoundTicks.{span, first_ticks, greatest}
use Rattle.vcd_remarks.specs.ValueRuns.{runs_begun}

-- x up to the tick 1, pulses at 5, 7 and 9, and no change at 0
abbrev rough : List Change
rough = from 2 Zero ∷ from 5 One ∷ from 7 Zero ∷ from 9 Z ∷ from 10 Zero ∷ from 15 One ∷ []

-- the run of 0 from 2 to 4 has three ticks, and stays; x has two, and stays at tick 0
three_pulses : edit_findings (Deglitch 0 3) (alone 20 rough)
    ≡ span_finding kinds.PulsesRemoved (span 5 2 ∷ span 7 2 ∷ span 9 1 ∷ [])
    ∷ span_finding kinds.BrokenStretches (span 5 5 ∷ []) ∷ span_finding kinds.LateEdges []
    ∷ span_finding kinds.ShortRunsKept (span 0 2 ∷ []) ∷ []
unfolding runs_begun gaps delayed_edges greatest first_ticks
three_pulses = refl

-- that run is a pulse too, between x up to 1 and 0 from 10 on
four_pulses : edit_findings (Deglitch 0 4) (alone 20 rough)
    ≡ span_finding kinds.PulsesRemoved (span 2 3 ∷ span 5 2 ∷ span 7 2 ∷ span 9 1 ∷ [])
    ∷ span_finding kinds.BrokenStretches (span 2 8 ∷ []) ∷ span_finding kinds.LateEdges (span 10 8 ∷ [])
    ∷ span_finding kinds.ShortRunsKept (span 0 2 ∷ []) ∷ []
unfolding runs_begun gaps delayed_edges greatest first_ticks
four_pulses = refl

-- spikes at both ends
spikes_at_ends : edit_findings (Deglitch 0 5) (alone 20 (from 0 One ∷ from 2 Zero ∷ from 19 One ∷ []))
    ≡ span_finding kinds.PulsesRemoved [] ∷ span_finding kinds.BrokenStretches [] ∷ span_finding kinds.LateEdges []
    ∷ span_finding kinds.ShortRunsKept (span 0 2 ∷ span 19 2 ∷ []) ∷ []
unfolding runs_begun gaps delayed_edges greatest first_ticks
spikes_at_ends = refl

-- the change at 15 comes past the end, or that at 5 to tick 0
moved_later : edit_findings (Shift 0 (pos 6)) (alone 20 rough)
    ≡ finding kinds.MovedPastEnd (15 ∷ []) ∷ finding kinds.MovedBeforeZero [] ∷ []
unfolding first_ticks
moved_later = refl

moved_earlier : edit_findings (Shift 0 (negsuc 4)) (alone 20 rough)
    ≡ finding kinds.MovedPastEnd [] ∷ finding kinds.MovedBeforeZero (2 ∷ []) ∷ []
unfolding first_ticks
moved_earlier = refl

-- of changes with z, which x and 0 do not count for
inverted : edit_findings (Invert 0) (capture 20 (record (wire (codes "bus") (change 2 (Z ∷ Zero ∷ [])
    ∷ change 5 (X ∷ One ∷ []) ∷ change 7 (Z ∷ Z ∷ []) ∷ [])) { width = 2 } ∷ []))
    ≡ finding kinds.InvertedZ (2 ∷ 7 ∷ []) ∷ []
unfolding first_ticks
inverted = refl

-- of the changes at 5, 7, 9, 10 and 15 those at 7 and 9 are within, the first is that of the forced value, and the one
-- at 10 is to another value
forced : edit_findings (Force 0 5 10 (One ∷ [])) (alone 20 rough) ≡ finding kinds.ChangesTakenOut (7 ∷ 9 ∷ []) ∷ []
unfolding ticks_taken_out first_ticks
forced = refl

-- the text of a remark, with more ticks than it shows, and that of nothing
told : flat_map finding_text (span_finding kinds.PulsesRemoved (span 3 1 ∷ span 5 2 ∷ span 8 1 ∷ span 10 1 ∷ span 12 1
    ∷ span 14 1 ∷ []) ∷ finding kinds.InvertedZ [] ∷ [])
    ≡ codes "deglitch: pulses removed: 6 (ticks at most: 2), at 3, 5, 8, 10, 12, .." ∷ []
unfolding greatest first_ticks words_in digits
told = refl
