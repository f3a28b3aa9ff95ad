-- When two captures are the same, by what their comparison tells. The rules are the project's own.
use Rattle.std.specs.Prelude.{ℕ, ◌==◌, ◌&&◌, not, Bool, true, false, length}
use Rattle.std.specs.List.{enumerate_from, list_all}
use Rattle.vcd_compare.specs.declared.comparison.Comparison.{Comparison}
use Rattle.vcd_compare.specs.declared.comparison.Outcome.{Outcome}
use Rattle.vcd_compare.specs.declared.comparison.Outcome.TheVariants as outcomes
use Rattle.vcd_compare.specs.declared.pairs.ComparedPair.{ComparedPair}
use Rattle.vcd_compare.specs.VariableDifferences.{count_of}
use Rattle.vcd_compare_program.specs.CaptureFacts.{CaptureFacts}
use Rattle.vcd_compare_program.specs.ReportLines.{have_one_kind, is_one_of_two}

-- whether a variable of the first capture was not asked for, or has a partner of its kind and width
abbrev pub has_same_partner : (a b : CaptureFacts) → (k : ℕ) → Outcome → Bool
has_same_partner a b k outcomes.NotAsked = true
has_same_partner a b k outcomes.NoPartner = false
has_same_partner a b k (outcomes.OtherWidth j) = false
has_same_partner a b k (outcomes.Compared j) = have_one_kind a b k j

-- whether no difference of two variables stands
abbrev pub has_no_difference : ComparedPair → Bool
has_no_difference p = count_of p.differences == 0

-- whether two captures are the same: both have a timescale or none, their ends are alike, each
-- variable that was asked for has a partner of its kind and width, and of no two a difference
-- stands
abbrev pub is_same : (a b : CaptureFacts) → Comparison → Bool
is_same a b c = ((not (is_one_of_two a.timescale b.timescale) && not c.has_other_end)
    && list_all (λ p. has_same_partner a b p.0 p.1) (enumerate_from 0 c.outcomes.items)
    && (length c.only_in_second.items == 0))
    && list_all has_no_difference c.compared.items
