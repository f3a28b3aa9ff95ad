-- No line tells of a difference exactly if the captures are the same.
use Rattle.std.proofs.Common.{◌≡◌, ◌∙◌, ◌+◌, ℕ, zero, suc, Bool, true, false, List, [], ◌∷◌, ◌++◌, length, map, refl}
use Rattle.std.proofs.Common.{ap, ap₂, arith}
use Rattle.std.specs.Prelude.{◌==◌, ◌&&◌, not, count_by, if◌then◌else◌}
use Rattle.std.specs.List.{enumerate_from, flat_map, list_all}
use Rattle.std.proofs.lemmas.List.Concat.{flat_map-cons}
use Rattle.std.proofs.lemmas.List.Sums.{sum_by-append, sum_by-cons}
use Rattle.vcd_compare.specs.declared.comparison.Comparison.{Comparison}
use Rattle.vcd_compare.specs.declared.comparison.Outcome.{Outcome}
use Rattle.vcd_compare.specs.declared.comparison.Outcome.TheVariants as outcomes
use Rattle.vcd_compare.specs.VariableDifferences.{count_of}
use Rattle.vcd_compare.specs.declared.pairs.ComparedPair.{ComparedPair}
use Rattle.vcd_compare_program.specs.declared.report_line.ReportLine.{ReportLine}
use Rattle.vcd_compare_program.specs.declared.report_line.ReportLine.TheVariants as lines
use Rattle.vcd_compare_program.specs.CaptureFacts.{CaptureFacts}
use Rattle.vcd_compare_program.specs.ReportLines.{difference_count, have_one_kind, is_one_of_two, line_if}
use Rattle.vcd_compare_program.specs.ReportLines.{is_nothing, left_out_lines, outcome_lines, outcomes_lines}
use Rattle.vcd_compare_program.specs.ReportLines.{times_lines}
use Rattle.vcd_compare_program.specs.ReportLines.{report_lines, short_run_lines, tells_difference, values_lines}
use Rattle.vcd_compare_program.specs.ReportLines.{declared_lines, waves_lines}
use Rattle.vcd_compare_program.specs.Sameness.{has_no_difference, has_same_partner, is_same}

-- ---- lines of which none tells of a difference

-- whether no line tells of a difference
abbrev none : List ReportLine → Bool
none ls = count_by tells_difference ls == 0

zero_sum : (n m : ℕ) → (n + m == 0) ≡ (n == 0 && m == 0)
zero_sum zero m = grind arith
zero_sum (suc n) m = grind arith

none_append : (xs ys : List ReportLine) → none (xs ++ ys) ≡ (none xs && none ys)
none_append xs ys =
    ap (λ n. n == 0) (sum_by-append (λ l. if tells_difference l then 1 else 0) xs ys)
    ∙ zero_sum (count_by tells_difference xs) (count_by tells_difference ys)

none_flat_map : {X : Type 0} (f : X → List ReportLine) (xs : List X)
    → none (flat_map f xs) ≡ list_all (λ x. none (f x)) xs
none_flat_map f [] = refl
none_flat_map f (x ∷ xs) = ap none (flat_map-cons f x xs) ∙ none_append (f x) (flat_map f xs)
    ∙ ap (λ b. none (f x) && b) (none_flat_map f xs)

-- a line that tells of a difference is not there
none_if : (b : Bool) (line : ReportLine) → tells_difference line ≡ true → none (line_if b line) ≡ not b
none_if false line tells = refl
none_if true line tells = ap (λ t. 0 + (if t then 1 else 0) == 0) tells

-- a line that tells of none may be there
none_silent : (b : Bool) (line : ReportLine) → tells_difference line ≡ false → none (line_if b line) ≡ true
none_silent false line silent = refl
none_silent true line silent = ap (λ t. 0 + (if t then 1 else 0) == 0) silent

not_not : (b : Bool) → not (not b) ≡ b
not_not true = refl
not_not false = refl

and_true : (b : Bool) → (b && true) ≡ b
and_true true = refl
and_true false = refl

and_false : (b : Bool) → (b && false) ≡ false
and_false true = refl
and_false false = refl

-- ---- the lines of the report

module _ (a b : CaptureFacts) where
  none_of_outcome : (k : ℕ) (o : Outcome) → none (outcome_lines a b k o) ≡ has_same_partner a b k o
  none_of_outcome k outcomes.NotAsked = refl
  none_of_outcome k outcomes.NoPartner = refl
  none_of_outcome k (outcomes.OtherWidth j) =
      none_append (line_if (not (have_one_kind a b k j)) (lines.OtherKind k j)) (lines.OtherWidth k j ∷ [])
      ∙ and_false (none (line_if (not (have_one_kind a b k j)) (lines.OtherKind k j)))
  none_of_outcome k (outcomes.Compared j) =
      none_if (not (have_one_kind a b k j)) (lines.OtherKind k j) refl ∙ not_not (have_one_kind a b k j)

  none_of_outcomes : (k : ℕ) (os : List Outcome)
      → list_all (λ p. none (outcome_lines a b p.0 p.1)) (enumerate_from k os)
      ≡ list_all (λ p. has_same_partner a b p.0 p.1) (enumerate_from k os)
  none_of_outcomes k [] = refl
  none_of_outcomes k (o ∷ os) = ap₂ (λ x y. x && y) (none_of_outcome k o) (none_of_outcomes (k + 1) os)

none_of_values : (k : ℕ) (ps : List ComparedPair) → list_all (λ p. none (values_lines p.0 p.1)) (enumerate_from k ps)
    ≡ list_all has_no_difference ps
none_of_values k [] = refl
none_of_values k (p ∷ ps) = ap₂ (λ x y. x && y)
    (none_if (not (count_of p.differences == 0)) (lines.OtherValues k) refl ∙ not_not (count_of p.differences == 0))
    (none_of_values (k + 1) ps)

none_of_runs : (k : ℕ) (ps : List ComparedPair)
    → list_all (λ p. none (short_run_lines p.0 p.1)) (enumerate_from k ps) ≡ true
none_of_runs k [] = refl
none_of_runs k (p ∷ ps) = ap₂ (λ x y. x && y)
    (none_silent _ (lines.ShortRun k) refl) (none_of_runs (k + 1) ps)

none_of_waves : (ps : List ComparedPair) → none (waves_lines ps) ≡ list_all has_no_difference ps
none_of_waves ps =
    let values = flat_map (λ p. values_lines p.0 p.1) (enumerate_from 0 ps) in
    let runs = flat_map (λ p. short_run_lines p.0 p.1) (enumerate_from 0 ps) in
    none_append values runs
    ∙ ap₂ (λ x y. x && y) (none_flat_map (λ p. values_lines p.0 p.1) (enumerate_from 0 ps) ∙ none_of_values 0 ps)
    (none_flat_map (λ p. short_run_lines p.0 p.1) (enumerate_from 0 ps) ∙ none_of_runs 0 ps)
    ∙ and_true (list_all has_no_difference ps)

none_of_others : (js : List ℕ) → none (map lines.OnlyInSecond js) ≡ (length js == 0)
none_of_others [] = refl
none_of_others (j ∷ js) =
    let some : false ≡ (length (j ∷ js) == 0) = grind arith in
    ap (λ n. n == 0) (sum_by-cons (λ l. if tells_difference l then 1 else 0) (lines.OnlyInSecond j)
    (map lines.OnlyInSecond js)) ∙ zero_sum 1 (count_by tells_difference (map lines.OnlyInSecond js)) ∙ some

module _ (a b : CaptureFacts) (c : Comparison) where
  none_of_times : none (times_lines a b c) ≡ (not (is_one_of_two a.timescale b.timescale) && not c.has_other_end)
  none_of_times =
      let finer = line_if (not (c.first.factor == c.second.factor)) lines.FinerTicks in
      let one = line_if (is_one_of_two a.timescale b.timescale) lines.OneTimescale in
      let end = line_if c.has_other_end lines.OtherEnd in
      none_append (finer ++ one) end
      ∙ ap (λ x. x && none end) (none_append finer one
      ∙ ap (λ x. x && none one) (none_silent (not (c.first.factor == c.second.factor)) lines.FinerTicks refl))
      ∙ ap₂ (λ x y. x && y) (none_if (is_one_of_two a.timescale b.timescale) lines.OneTimescale refl)
      (none_if c.has_other_end lines.OtherEnd refl)

  none_of_left_out : none (left_out_lines a b) ≡ true
  none_of_left_out =
      let first = line_if (not (is_nothing a.left_out)) lines.LeftOutOfFirst in
      let second = line_if (not (is_nothing b.left_out)) lines.LeftOutOfSecond in
      none_append first second
      ∙ ap₂ (λ x y. x && y) (none_silent (not (is_nothing a.left_out)) lines.LeftOutOfFirst refl)
      (none_silent (not (is_nothing b.left_out)) lines.LeftOutOfSecond refl)

  none_of_declared : none (declared_lines a b c)
      ≡ ((not (is_one_of_two a.timescale b.timescale) && not c.has_other_end)
      && list_all (λ p. has_same_partner a b p.0 p.1) (enumerate_from 0 c.outcomes.items)
      && (length c.only_in_second.items == 0))
  none_of_declared =
      let times = times_lines a b c in
      let outcomes = outcomes_lines a b c.outcomes.items in
      let others = map lines.OnlyInSecond c.only_in_second.items in
      none_append (times ++ outcomes) others
      ∙ ap₂ (λ x y. x && y) (none_append times outcomes ∙ ap₂ (λ x y. x && y) none_of_times
      (none_flat_map (λ p. outcome_lines a b p.0 p.1) (enumerate_from 0 c.outcomes.items)
      ∙ none_of_outcomes a b 0 c.outcomes.items)) (none_of_others c.only_in_second.items)

  -- no line tells of a difference exactly if the captures are the same
  pub same_if_none : (difference_count a b c == 0) ≡ is_same a b c
  unfolding report_lines
  same_if_none = none_append (declared_lines a b c ++ waves_lines c.compared.items) (left_out_lines a b)
      ∙ ap₂ (λ x y. x && y) (none_append (declared_lines a b c) (waves_lines c.compared.items)
      ∙ ap₂ (λ x y. x && y) none_of_declared (none_of_waves c.compared.items)) none_of_left_out
      ∙ and_true (is_same a b c)
