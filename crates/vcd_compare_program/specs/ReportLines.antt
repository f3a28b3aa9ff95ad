-- Which lines the report of a comparison has, in their order. The rules are the project's own.
use Rattle.std.specs.Prelude.{ℕ, ◌==◌, ◌&&◌, not, Bool, true, false, bytes_eq, is_some}
use Rattle.std.specs.Prelude.{List, [], ◌∷◌, ◌++◌, map, count_by, Option, Some, None, slice_get}
use Rattle.std.specs.List.{enumerate_from, flat_map}
use Rattle.vcd_compare.specs.declared.comparison.Comparison.{Comparison}
use Rattle.vcd_compare.specs.declared.comparison.Outcome.{Outcome}
use Rattle.vcd_compare.specs.declared.comparison.Outcome.TheVariants as outcomes
use Rattle.vcd_compare.specs.declared.pairs.ComparedPair.{ComparedPair}
use Rattle.vcd_compare.specs.VariableDifferences.{count_of}
use Rattle.vcd_compare.specs.declared.left_out.LeftOut.{LeftOut}
use Rattle.vcd_compare_program.specs.declared.report_line.ReportLine.{ReportLine}
use Rattle.vcd_compare_program.specs.declared.report_line.ReportLine.TheVariants as lines
use Rattle.vcd_compare_program.specs.CaptureFacts.{CaptureFacts, VariableFacts, no_facts}

-- a line, if it is to be there
abbrev pub line_if : Bool → ReportLine → List ReportLine
line_if true line = line ∷ []
line_if false line = []

-- a variable, if there is one
abbrev pub facts_or_none : Option VariableFacts → VariableFacts
facts_or_none None = no_facts
facts_or_none (Some s) = s

-- the variable at a position
abbrev pub facts_in : CaptureFacts → ℕ → VariableFacts
facts_in c k = facts_or_none (slice_get c.variables k)

-- whether two variables are of one kind
abbrev pub have_one_kind : (a b : CaptureFacts) → (k j : ℕ) → Bool
have_one_kind a b k j = bytes_eq (facts_in a k).kind (facts_in b j).kind

-- the line on the kinds of two variables, if these are two
abbrev pub kind_lines : (a b : CaptureFacts) → (k j : ℕ) → List ReportLine
kind_lines a b k j = line_if (not (have_one_kind a b k j)) (lines.OtherKind k j)

-- the lines on what is told of a variable of the first capture
abbrev pub outcome_lines : (a b : CaptureFacts) → (k : ℕ) → Outcome → List ReportLine
outcome_lines a b k outcomes.NotAsked = []
outcome_lines a b k outcomes.NoPartner = lines.OnlyInFirst k ∷ []
outcome_lines a b k (outcomes.OtherWidth j) = kind_lines a b k j ++ lines.OtherWidth k j ∷ []
outcome_lines a b k (outcomes.Compared j) = kind_lines a b k j

-- the lines on what is told of the variables of the first capture, in its order
abbrev pub outcomes_lines : (a b : CaptureFacts) → List Outcome → List ReportLine
outcomes_lines a b told = flat_map (λ p. outcome_lines a b p.0 p.1) (enumerate_from 0 told)

-- the line on the waves of two variables, if they differ
abbrev pub values_lines : (place : ℕ) → ComparedPair → List ReportLine
values_lines place p = line_if (not (count_of p.differences == 0)) (lines.OtherValues place)

-- the line on a run of two variables that is so short that more may be forgiven than late edges
abbrev pub short_run_lines : (place : ℕ) → ComparedPair → List ReportLine
short_run_lines place p = line_if (is_some p.short_run) (lines.ShortRun place)

-- whether one of two things is there, and not the other
abbrev pub is_one_of_two : {A : Type 0} → (a b : Option A) → Bool
is_one_of_two None b = is_some b
is_one_of_two (Some a) b = not (is_some b)

-- the lines on timescales and ends: there is a finer timescale, or only one capture has one
abbrev pub times_lines : (a b : CaptureFacts) → Comparison → List ReportLine
times_lines a b c = line_if (not (c.first.factor == c.second.factor)) lines.FinerTicks
    ++ line_if (is_one_of_two a.timescale b.timescale) lines.OneTimescale
    ++ line_if c.has_other_end lines.OtherEnd

-- the lines on what is declared: times; the variables of the first capture, then those that only
-- the second has
abbrev pub declared_lines : (a b : CaptureFacts) → Comparison → List ReportLine
declared_lines a b c = times_lines a b c ++ outcomes_lines a b c.outcomes.items
    ++ map lines.OnlyInSecond c.only_in_second.items

-- the lines on waves: those that differ, and then what was compared loosely
abbrev pub waves_lines : List ComparedPair → List ReportLine
waves_lines compared = flat_map (λ p. values_lines p.0 p.1) (enumerate_from 0 compared)
    ++ flat_map (λ p. short_run_lines p.0 p.1) (enumerate_from 0 compared)

-- whether nothing is left out
abbrev pub is_nothing : LeftOut → Bool
is_nothing l = l.replaced == 0

-- the lines on what is left out
abbrev pub left_out_lines : (a b : CaptureFacts) → List ReportLine
left_out_lines a b = line_if (not (is_nothing a.left_out)) lines.LeftOutOfFirst
    ++ line_if (not (is_nothing b.left_out)) lines.LeftOutOfSecond

-- all lines but the last
unfoldable pub report_lines : (a b : CaptureFacts) → Comparison → List ReportLine
report_lines a b c =
    declared_lines a b c ++ waves_lines c.compared.items ++ left_out_lines a b

-- whether a line says that something differs
abbrev pub tells_difference : ReportLine → Bool
tells_difference lines.FinerTicks = false
tells_difference (lines.ShortRun place) = false
tells_difference lines.LeftOutOfFirst = false
tells_difference lines.LeftOutOfSecond = false
tells_difference line = true

-- how many lines say that something differs
abbrev pub difference_count : (a b : CaptureFacts) → Comparison → ℕ
difference_count a b c = count_by tells_difference (report_lines a b c)

-- whether nothing is left out of either capture
abbrev pub is_whole : (a b : CaptureFacts) → Bool
is_whole a b = is_nothing a.left_out && is_nothing b.left_out

-- whether two variables that were compared are the same: of one kind, and no difference stands
abbrev pub is_same_pair : (a b : CaptureFacts) → ComparedPair → Bool
is_same_pair a b p = count_of p.differences == 0 && have_one_kind a b p.first p.second

-- how many variables are the same
abbrev pub same_count : (a b : CaptureFacts) → List ComparedPair → ℕ
same_count a b compared = count_by (is_same_pair a b) compared
