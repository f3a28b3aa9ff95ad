-- Worked cases: where changes are after cuts, and which of them change the lines of a decoder.
use Rattle.std.proofs.Common.{◌≡◌, List, [], ◌∷◌, Some, None, refl}
use Rattle.std.specs.Prelude.{codes}
use Rattle.vcd_core.specs.declared.bit.Bit.TheVariants.{One}
use Rattle.vcd_text.specs.HeardChanges.{HeardChange}
use Rattle.vcd_text.specs.declared.reading.heard_changes.ChangeTarget.TheVariants.{Kept}
use Rattle.vcd_amend.specs.declared.cut_ticks.CutTicks.{CutTicks}
use Rattle.vcd_amend_run.specs.inside.FileLines.{tick_moved_by_cuts, changes_of_lines}

-- the ticks 10 to 19 are cut out, and then 5 to 7 of what is left
abbrev cuts : List CutTicks
cuts = record { from = 10; to = 20 } ∷ record { from = 5; to = 8 } ∷ []

before : tick_moved_by_cuts cuts 4 ≡ 4
unfolding tick_moved_by_cuts
before = refl

in_first : tick_moved_by_cuts cuts 15 ≡ 7
unfolding tick_moved_by_cuts
in_first = refl

in_second : tick_moved_by_cuts cuts 6 ≡ 5
unfolding tick_moved_by_cuts
in_second = refl

after : tick_moved_by_cuts cuts 25 ≡ 12
unfolding tick_moved_by_cuts
after = refl

-- a change of the code of two lines changes both
abbrev heard : HeardChange
heard = record { tick = 25; target = Kept 3; text = codes "1" }

both_lines : changes_of_lines cuts (Some 2 ∷ Some 3 ∷ None ∷ Some 3 ∷ []) 0 heard
    ≡ record { tick = 12; line = 1; letter = One } ∷ record { tick = 12; line = 3; letter = One } ∷ []
unfolding tick_moved_by_cuts changes_of_lines
both_lines = refl
