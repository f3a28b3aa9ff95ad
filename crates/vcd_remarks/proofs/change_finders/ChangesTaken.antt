-- What is left to find at changes after one more change, and before the first one.
use Rattle.std.proofs.Common.{◌≡◌, ℕ, ◌^◌, ◌<◌, ◌≤◌, Bool, true, false, if◌then◌else◌, List, [], ◌∷◌, length, map}
use Rattle.std.proofs.Common.{refl, sym, arith}
use Rattle.std.specs.List.{filter}
use Rattle.std.proofs.lemmas.List.{length-map}
use Rattle.vcd_core.specs.declared.bit.Bit.{Bit}
use Rattle.vcd_core.specs.declared.wave.Change.{Change}
use Rattle.vcd_remarks.specs.declared.findings.found_ticks.FoundTicks.{FoundTicks}
use Rattle.vcd_remarks.specs.EditFindings.{is_change_taken_out, ticks_taken_out}
use Rattle.vcd_remarks.specs.FoundTicks.{found_ticks}
use Rattle.vcd_remarks.specs.inside.EditFinder.{passing_left}
use Rattle.vcd_remarks.specs.inside.FoundTicks.{with_tick, with_ticks}
use Rattle.vcd_remarks.proofs.deglitch_finder.RunsTaken.{passing_few}
use Rattle.vcd_remarks.proofs.findings.TicksInTurn.{found_so_far}

-- ---- one change more, which is asked whether it passes

module _ (found next : FoundTicks) (c : Change) (more : List Change) where
  pub change_taken : (test : Change → Bool) (passes : Bool) → next ≡ (if passes then with_tick found c.tick else found)
      → passes ≡ test c → passing_left test next more ≡ passing_left test found (c ∷ more)
  unfolding with_ticks
  change_taken test true is asked = rw (is, sym asked) refl
  change_taken test false is asked = rw (is, sym asked) refl

  pub taken_out : (from to : ℕ) (value before : List Bit) (passes : Bool)
      → next ≡ (if passes then with_tick found c.tick else found)
      → passes ≡ is_change_taken_out from to value before c
      → with_ticks next (ticks_taken_out from to value c.value more)
      ≡ with_ticks found (ticks_taken_out from to value before (c ∷ more))
  unfolding with_ticks ticks_taken_out
  taken_out from to value before true is asked = rw (is, sym asked) refl
  taken_out from to value before false is asked = rw (is, sym asked) refl

-- ---- all changes

pub changes_found : (test : Change → Bool) (none : FoundTicks) (cs : List Change) → none ≡ found_ticks []
    → length cs < 2 ^ 64 → passing_left test none cs ≡ found_ticks (map (λ c. c.tick) (filter test cs))
changes_found test none cs is fits =
    rw is (found_so_far [] (map (λ c. c.tick) (filter test cs))
    (omega (arith, fits, passing_few test cs, length-map (filter test cs) (λ c. c.tick))))

few_taken_out : (from to : ℕ) (value before : List Bit) (cs : List Change)
    → length (ticks_taken_out from to value before cs) ≤ length cs
unfolding ticks_taken_out
few_taken_out from to value before [] = omega arith
few_taken_out from to value before (c ∷ cs) =
    by_test (few_taken_out from to value c.value cs) (is_change_taken_out from to value before c)
  where
    by_test : length (ticks_taken_out from to value c.value cs) ≤ length cs → (b : Bool)
        → length (if b then c.tick ∷ ticks_taken_out from to value c.value cs
        else ticks_taken_out from to value c.value cs) ≤ length (c ∷ cs)
    by_test later true = omega (arith, later)
    by_test later false = omega (arith, later)

pub all_taken_out : (from to : ℕ) (value before : List Bit) (none : FoundTicks) (cs : List Change)
    → none ≡ found_ticks [] → length cs < 2 ^ 64
    → with_ticks none (ticks_taken_out from to value before cs) ≡ found_ticks (ticks_taken_out from to value before cs)
all_taken_out from to value before none cs is fits =
    rw is (found_so_far [] (ticks_taken_out from to value before cs)
    (omega (arith, fits, few_taken_out from to value before cs)))

-- ---- after the last change

pub no_tick_more : (found : FoundTicks) → with_ticks found [] ≡ found
unfolding with_ticks
no_tick_more found = refl

pub none_out : (from to : ℕ) (value before : List Bit) → ticks_taken_out from to value before [] ≡ []
unfolding ticks_taken_out
none_out from to value before = refl

pub ruleset none_left = (no_tick_more, none_out)
