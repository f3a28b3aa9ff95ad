-- The lines that a dry run streams, and what all others ask for, by the history.
use Rattle.std.proofs.Common.{◌≡◌, ◌≤◌, ◌==◌, ◌⊎◌, ℕ, ◌+◌, Bool, true, false, if◌then◌else◌, List, [], ◌∷◌, ◌++◌}
use Rattle.std.proofs.Common.{length, get_or, Option, Result, is_err, refl, sym, ap, subst, ◌∙◌, inl, inr, append_assoc}
use Rattle.std.proofs.Common.{arith}
use Rattle.std.specs.Prelude.{map, Some}
use Rattle.std.specs.List.{AllByRecursion}
use Rattle.std.specs.Option.{option_map}
use Rattle.std.proofs.lemmas.Bool.Decides.{nat_tests}
use Rattle.std.proofs.lemmas.List.{append-nil}
use Rattle.vcd_core.specs.Contents.{Contents}
use Rattle.vcd_journal.specs.History.{History, replay}
use Rattle.vcd_script.specs.declared.script.command.Command.{Command}
use Rattle.vcd_script.specs.declared.script.line_error.LineError.{LineError}
use Rattle.vcd_script.specs.ScriptCommands.{command_of_line}
use Rattle.vcd_script.specs.Run.{line_answer, history_after_line}
use Rattle.vcd_script.proofs.shared.LinesAndHistory.{answer_is}
use Rattle.vcd_hollow.specs.Origins.{origins}
use Rattle.vcd_hollow.specs.HollowRun.{waves_asked, origins_at}
use Rattle.vcd_hollow.proofs.shared.Origins.{origins_rise}
use Rattle.vcd_amend_run.specs.EditsInForce.{EditLines, lines_after_line}
use Rattle.vcd_amend_run.specs.declared.streamed_line.StreamedLine.{StreamedLine}
use Rattle.vcd_amend_run.specs.declared.dry_running.DryState.{DryState}
use Rattle.vcd_amend_run.specs.inside.StreamedLines.{IsStreamed, IsHeardLine, ArePlanned}
use Rattle.vcd_amend_run.specs.inside.dry_running.HistoryNotes.{HistoryNotes}
use Rattle.vcd_amend_run.specs.inside.dry_running.LinePlan.{PlanNotes, StreamsLine, TakesLine, planned_after_command}
use Rattle.vcd_amend_run.specs.inside.dry_running.LinePlan.{marked}
use Rattle.vcd_amend_run.specs.inside.dry_running.HeardLines.{HearsLine, HearLines}
use Rattle.vcd_amend_run.proofs.dry_running.origin_history.NotesOfHistory.{notes_of, cuts_are_noted}
use Rattle.vcd_amend_run.proofs.dry_running.Marks.{length-marked, marks_stay, all_are_heard, all_below}
use Rattle.vcd_amend_run.proofs.dry_running.StateOfHistory.{IsStateOf, asked_is, state_follows}
use Rattle.vcd_amend_run.proofs.dry_running.ReadSignals.{IsPlanAfter, plan_is_covered, all_unread}

-- no marked signal is silent
abbrev pub HearsMarked : (silent : ℕ → Bool) → (marks : List Bool) → Type 0
HearsMarked silent marks = (k : ℕ) → get_or marks k false ≡ true → silent k ≡ false

-- what is marked stays marked
abbrev pub KeepsMarks : (old new : List Bool) → Type 0
KeepsMarks old new = (k : ℕ) → get_or old k false ≡ true → get_or new k false ≡ true

module _ (c : Contents) (skipped : ℕ) where
  abbrev count : ℕ
  count = length c.signals

  -- ---- a line

  -- after this history the line of this number is streamed, or it asks for no silent signal
  record IsPlannedLine (number : ℕ) (h : History) (line : List ℕ) (old new : List Bool)
      (before after : List StreamedLine) : Type 0 where
    keeps : KeepsMarks old new
    planned : ((s : StreamedLine) × (s.number ≡ number) × IsStreamed c h line s × (after ≡ before ++ s ∷ []))
        ⊎ ((after ≡ before) × ((silent : ℕ → Bool) → HearsMarked silent new → IsHeardLine silent c h line))

  abbrev TakesPlanned : ℕ → History → List ℕ → PlanNotes → PlanNotes → Type 0
  TakesPlanned number h line old new = IsPlannedLine number h line old.heard new.heard old.streamed new.streamed

  abbrev asked_after : History → List ℕ → Result Command LineError
  asked_after h line = command_of_line (replay c h.edits) line

  streamed_line : (number : ℕ) (h : History) (line : List ℕ) (old new : PlanNotes) → IsPlanAfter count h old
      → StreamsLine number (notes_of count h) (asked_after h line) old new
      → TakesPlanned number h line old new × IsPlanAfter count h new
  streamed_line number h line old new is so = (
    record {
      keeps = λ k was. rw so.added.plan was;
      planned = inl (
        so.added.added,
        so.added.number_is,
        record {
          command = so.command;
          asked = so.asked_is;
          decodes = so.decodes;
          lines = so.unread.are_origins
              ∙ ap (λ (ls : List (Option ℕ)). map (option_map (λ k. Some k)) ls) (sym so.added.lines_are);
          unread = rw so.added.lines_are (all_unread count h old is so.lines so.unread.unread);
          cuts = so.added.cuts_are ∙ cuts_are_noted count h.edits;
        },
        ap (λ (p : PlanNotes). p.streamed) so.added.plan,
      );
    },
    rw so.added.plan (record { one_each = is.one_each; one_read = is.one_read; covers = is.covers }),
  )

  heard_line : (number : ℕ) (h : History) (line : List ℕ) (old new : PlanNotes) → IsPlanAfter count h old
      → new ≡ record old {
        heard = marked old.heard (origins_at (origins count h.edits) (waves_asked
            (asked_after h line)));
      } → TakesPlanned number h line old new × IsPlanAfter count h new
  heard_line number h line old new is so =
      let ks : List ℕ = origins_at (origins count h.edits) (waves_asked (asked_after h line)) in (
        record {
          keeps = λ k was. rw so (marks_stay old.heard ks k was);
          planned = inr (
            ap (λ (p : PlanNotes). p.streamed) so,
            λ silent hears.
                all_are_heard silent old.heard ks
                (subst (λ (p : PlanNotes). HearsMarked silent p.heard) so hears)
                (rw is.one_each (all_below count (origins count h.edits) (waves_asked (asked_after h line))
                (origins_rise count h.edits))),
          );
        },
        rw so (record {
          one_each = length-marked old.heard ks ∙ is.one_each;
          one_read = is.one_read;
          covers = is.covers;
        }),
      )

  taken_line : (number : ℕ) (h : History) (line : List ℕ) (old new : PlanNotes) → IsPlanAfter count h old
      → TakesLine number (notes_of count h) (asked_after h line) old new
      → TakesPlanned number h line old new × IsPlanAfter count h new
  taken_line number h line old new is (inl so) = streamed_line number h line old new is so
  taken_line number h line old new is (inr so) = heard_line number h line old new is so

  -- an answer changes the marks of what was read alone
  same_parts : (p : PlanNotes) (os : List ℕ) (asked : Result Command LineError) (refused : Bool) →
      ((if refused then p else planned_after_command p os asked).heard ≡ p.heard)
      × ((if refused then p else planned_after_command p os asked).streamed ≡ p.streamed)
  same_parts p os asked true = (refl, refl)
  same_parts p os asked false = (refl, refl)

  line_is_planned : (number : ℕ) (h : History) (l : EditLines) (line : List ℕ) (old new : DryState)
      → IsStateOf c h l old → IsPlanAfter count h old.plan → HearsLine skipped number line old new
      → TakesPlanned number h line old.plan new.plan × IsPlanAfter count (history_after_line c skipped h line) new.plan
  line_is_planned number h l line old new is plan hears =
      let asked : Result Command LineError = asked_after h line in
      let refused : Bool = is_err (line_answer c skipped h line) in
      let takes : TakesLine number (notes_of count h) asked old.plan hears.taken =
      subst (λ (n : HistoryNotes). TakesLine number n.notes asked old.plan hears.taken) is.notes
      (subst (λ (a : Result Command LineError). TakesLine number old.history.notes a old.plan hears.taken)
      (asked_is c skipped h old.session line is.machine) hears.takes) in
      let both = taken_line number h line old.plan hears.taken plan takes in
      let after : (if refused then hears.taken else planned_after_command hears.taken (origins count h.edits) asked)
      ≡ new.plan =
      sym (λ i. if is_err (answer_is c h old.session skipped line is.machine i) then hears.taken
      else planned_after_command hears.taken (is.notes i).notes.origins
      (asked_is c skipped h old.session line is.machine i)) ∙ hears.plan in
      let same = same_parts hears.taken (origins count h.edits) asked refused in
      let heard : hears.taken.heard ≡ new.plan.heard = sym same.0 ∙ ap (λ (p : PlanNotes). p.heard) after in
      let streamed : hears.taken.streamed ≡ new.plan.streamed =
      sym same.1 ∙ ap (λ (p : PlanNotes). p.streamed) after in (
        subst (λ (ms : List Bool). IsPlannedLine number h line old.plan.heard ms old.plan.streamed new.plan.streamed)
            heard (subst (λ (ss : List StreamedLine). IsPlannedLine number h line old.plan.heard hears.taken.heard
            old.plan.streamed ss) streamed both.0),
        subst (IsPlanAfter count (history_after_line c skipped h line)) after
            (plan_is_covered count h hears.taken asked refused both.1),
      )

  -- ---- lines

  -- lines from this number on, after this history, are planned
  pub record ArePlannedAfter (number : ℕ) (h : History) (lines : List (List ℕ)) (old new : PlanNotes) : Type 0 where
    pub rest : List StreamedLine
    pub streamed : new.streamed ≡ old.streamed ++ rest
    pub later : AllByRecursion (λ s. number ≤ s.number) rest
    pub keeps : KeepsMarks old.heard new.heard
    pub planned : (silent : ℕ → Bool) → HearsMarked silent new.heard
        → ArePlanned c skipped silent number h lines rest
    pub one_each : length new.heard ≡ count

  from_earlier : (number : ℕ) (rest : List StreamedLine) → AllByRecursion (λ s. number + 1 ≤ s.number) rest
      → AllByRecursion (λ s. number ≤ s.number) rest
  from_earlier number [] later = tt
  from_earlier number (s ∷ rest) later = (omega (arith, later.0), from_earlier number rest later.1)

  same_test : (n m : ℕ) → n ≡ m → (n == m) ≡ true
  same_test n m same = grind (arith, nat_tests)

  later_test : (n m : ℕ) → m + 1 ≤ n → (n == m) ≡ false
  later_test n m later = grind (arith, nat_tests)

  not_streamed : (silent : ℕ → Bool) (number : ℕ) (h : History) (line : List ℕ) (lines : List (List ℕ))
      (rest : List StreamedLine) → AllByRecursion (λ s. number + 1 ≤ s.number) rest → IsHeardLine silent c h line
      → ArePlanned c skipped silent (number + 1) (history_after_line c skipped h line) lines rest
      → ArePlanned c skipped silent number h (line ∷ lines) rest
  unfolding ArePlanned
  not_streamed silent number h line lines [] later heard planned = (heard, planned)
  not_streamed silent number h line lines (s ∷ rest) later heard planned =
      inr (later_test s.number number later.0, heard, planned)

  line_and_others : (number : ℕ) (h : History) (line : List ℕ) (lines : List (List ℕ)) (old between new : PlanNotes)
      → TakesPlanned number h line old between
      → ArePlannedAfter (number + 1) (history_after_line c skipped h line) lines between new
      → ArePlannedAfter number h (line ∷ lines) old new
  unfolding ArePlanned
  line_and_others number h line lines old between new first more = elim first.planned [
    | inl streams ↦ record {
      rest = streams.0 ∷ more.rest;
      streamed = more.streamed ∙ ap (λ (ss : List StreamedLine). ss ++ more.rest) streams.3
          ∙ append_assoc old.streamed (streams.0 ∷ []) more.rest;
      later = (omega (arith, streams.1), from_earlier number more.rest more.later);
      keeps = λ k was. more.keeps k (first.keeps k was);
      planned = λ silent hears. inl (same_test streams.0.number number streams.1, streams.2, more.planned silent hears);
      one_each = more.one_each;
    }
    | inr asks ↦ record {
      rest = more.rest;
      streamed = more.streamed ∙ ap (λ (ss : List StreamedLine). ss ++ more.rest) asks.0;
      later = from_earlier number more.rest more.later;
      keeps = λ k was. more.keeps k (first.keeps k was);
      planned = λ silent hears. not_streamed silent number h line lines more.rest more.later
          (asks.1 silent (λ k was. hears k (more.keeps k was))) (more.planned silent hears);
      one_each = more.one_each;
    }
  ]

  pub lines_are_planned : (number : ℕ) (h : History) (l : EditLines) (lines : List (List ℕ)) (old new : DryState)
      → IsStateOf c h l old → IsPlanAfter count h old.plan → HearLines skipped number lines old new
      → ArePlannedAfter number h lines old.plan new.plan
  unfolding HearLines ArePlanned
  lines_are_planned number h l [] old new is plan hear =
      subst (λ (s : DryState). ArePlannedAfter number h [] old.plan s.plan) hear (record {
        rest = [];
        streamed = sym (append-nil old.plan.streamed);
        later = tt;
        keeps = λ k was. was;
        planned = λ silent hears. tt;
        one_each = plan.one_each;
      })
  lines_are_planned number h l (line ∷ lines) old new is plan hear =
      let first = line_is_planned number h l line old hear.0 is plan hear.1 in
      line_and_others number h line lines old.plan hear.0.plan new.plan first.0
      (lines_are_planned (number + 1) (history_after_line c skipped h line) (lines_after_line c skipped h l line) lines
      hear.0 new (state_follows c skipped number h l line old hear.0 is hear.1) first.1 hear.2)
