-- The cuts in force in a run fit the capture.
use Rattle.std.proofs.Common.{◌≡◌, ◌≤◌, ◌<◌, ℕ, Bool, true, false, ◌&&◌, nat_lt, nat_le, if◌then◌else◌, List, [], ◌∷◌}
use Rattle.std.proofs.Common.{None, Some, refl, arith}
use Rattle.std.proofs.lemmas.Bool.{and_parts}
use Rattle.std.proofs.lemmas.Bool.Decides.{nat_tests}
use Rattle.vcd_core.specs.Contents.{Contents}
use Rattle.vcd_edit.specs.declared.edit.Edit.{Edit}
use Rattle.vcd_edit.specs.declared.edit.Edit.TheVariants.{Cut}
use Rattle.vcd_edit.specs.declared.fault.EditError.TheVariants.{BadRange}
use Rattle.vcd_edit.specs.EditFaults.{edit_fault}
use Rattle.vcd_journal.specs.History.{replay}
use Rattle.vcd_hollow.specs.Cuts.{CutsFit}
use Rattle.vcd_script.specs.Run.{history_at}
use Rattle.vcd_hollow.specs.HollowRun.{CutsOfRunFit}
use Rattle.vcd_script.proofs.shared.LawsOfRun.{AreMade, none_refused, in_force_made}

-- ---- an accepted cut

test_holds : (b : Bool) → (if b then None else Some BadRange) ≡ None → b ≡ true
test_holds true none = refl
test_holds false none = absurd (cc)

in_range : (from to end : ℕ) → (nat_lt from to && nat_le to end) ≡ true → (from < to) × (to ≤ end)
in_range from to end holds =
    let both = and_parts (nat_lt from to) (nat_le to end) holds in
    (grind (arith, nat_tests), grind (arith, nat_tests))

cut_fits : (c : Contents) (from to : ℕ) → edit_fault (Cut from to) c ≡ None → (from < to) × (to ≤ c.end)
unfolding edit_fault
cut_fits c from to none = in_range from to c.end (test_holds (nat_lt from to && nat_le to c.end) none)

-- ---- those in force

module _ (c : Contents) (skipped depth : ℕ) (lines : List (List ℕ)) where
  all_fit : (count : ℕ) (es : List Edit) → AreMade c skipped depth lines count es → CutsFit c es
  unfolding AreMade CutsFit
  all_fit count [] made = tt
  all_fit count (Cut from to ∷ es) made =
      let within = cut_fits (replay c es) from to
      (none_refused c skipped depth lines count (Cut from to) es made) in
      (within.0, within.1, all_fit count es made.1)
  all_fit count (e ∷ es) made = all_fit count es made.1

pub cuts_of_run_fit : CutsOfRunFit
cuts_of_run_fit c skipped depth lines count =
    all_fit c skipped depth lines count (history_at c skipped depth lines count).edits
    (in_force_made c skipped depth lines count)
