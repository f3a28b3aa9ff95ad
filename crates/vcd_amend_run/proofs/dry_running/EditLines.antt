-- The lines that made the edits in force: they hang on the outline alone, and ask for these edits.
use Rattle.std.proofs.Common.{◌≡◌, ◌∙◌, ◌++◌, ℕ, Bool, true, false, if◌then◌else◌, List, [], ◌∷◌, take, drop}
use Rattle.std.proofs.Common.{Result, Ok, is_err, refl, sym, ap, subst}
use Rattle.std.specs.Prelude.{fold, reverse}
use Rattle.std.proofs.Math.Seq.{take-length}
use Rattle.std.proofs.lemmas.List.{reverse-reverse}
use Rattle.vcd_core.specs.Contents.{Contents}
use Rattle.vcd_core.specs.Outline.{outline}
use Rattle.vcd_edit.specs.declared.edit.Edit.{Edit}
use Rattle.vcd_journal.specs.declared.step.Step.{Step}
use Rattle.vcd_journal.specs.declared.step.Step.TheVariants as steps
use Rattle.vcd_journal.specs.History.{History, initial_history, history_after, replay}
use Rattle.vcd_script.specs.declared.script.command.Command.{Command}
use Rattle.vcd_script.specs.declared.script.command.Command.TheVariants as commands
use Rattle.vcd_script.specs.declared.script.line_error.LineError.{LineError}
use Rattle.vcd_script.specs.ScriptCommands.{command_of_line}
use Rattle.vcd_script.specs.Run.{line_answer, history_after_command, history_after_line}
use Rattle.vcd_hollow.specs.HollowRun.{last_edits}
use Rattle.vcd_hollow.proofs.shared.HollowRuns.{command_same, answer_same, next_same}
use Rattle.vcd_amend_run.specs.EditsInForce.{EditLines, no_lines, lines_after_step, lines_after_command}
use Rattle.vcd_amend_run.specs.EditsInForce.{lines_after_line}
use Rattle.vcd_amend_run.specs.EditsInForce.{lines_after, lines_in_force, AskForEdits, LinesInForceAskForEdits}

-- ---- captures of one outline

module _ (c d : Contents) (same : outline c ≡ outline d) (skipped : ℕ) where
  line_same : (h : History) (l : EditLines) (line : List ℕ)
      → lines_after_line c skipped h l line ≡ lines_after_line d skipped h l line
  line_same h l line = λ i. if answer_same c d same skipped h line i then l
      else lines_after_command l line (command_same c d same skipped h line i)

  lines_same : (h : History) (l : EditLines) (lines : List (List ℕ))
      → lines_after c skipped h l lines ≡ lines_after d skipped h l lines
  unfolding lines_after
  lines_same h l [] = refl
  lines_same h l (line ∷ lines) =
      lines_same (history_after_line c skipped h line) (lines_after_line c skipped h l line) lines
      ∙ (λ i. lines_after d skipped (next_same c d same skipped h line i) (line_same h l line i) lines)

pub lines_of_outline : (c d : Contents) (skipped depth : ℕ) (lines : List (List ℕ)) → outline c ≡ outline d
    → lines_in_force c skipped depth lines ≡ lines_in_force d skipped depth lines
lines_of_outline c d skipped depth lines same =
    ap (λ (l : EditLines). reverse l.in_force) (lines_same c d same skipped (initial_history depth) no_lines lines)

-- ---- what the lines ask for

abbrev Asks : Contents → List Edit → List ℕ → Edit → Type 0
Asks c es line e = command_of_line (replay c es) line ≡ Ok (commands.Step (steps.Edit e))

-- the lines of undone edits ask for these, one after another, after the edits in force
unfoldable AskAgain : Contents → List Edit → (lines : List (List ℕ)) → List Edit → Type 0
AskAgain c es [] [] = Unit {0}
AskAgain c es (line ∷ lines) (u ∷ us) = Asks c es line u × AskAgain c (u ∷ es) lines us
AskAgain c es lines us = ⊥

record AreKept (c : Contents) (h : History) (l : EditLines) : Type 0 where
  in_force : AskForEdits c l.in_force h.edits
  undone : AskAgain c h.edits l.undone h.undone

module _ (c : Contents) where
  kept_in_undo : (lines undone : List (List ℕ)) (es us : List Edit) → AskForEdits c lines es
      → AskAgain c es undone us → AskForEdits c (drop 1 lines) (drop 1 es)
      × AskAgain c (drop 1 es) (take 1 lines ++ undone) (take 1 es ++ us)
  unfolding AskForEdits AskAgain
  kept_in_undo [] undone [] us asks again = (tt, again)
  kept_in_undo [] undone (e ∷ es) us asks again = absurd asks
  kept_in_undo (line ∷ lines) undone [] us asks again = absurd asks
  kept_in_undo (line ∷ lines) undone (e ∷ es) us asks again = (asks.1, (asks.0, again))

  kept_in_redo : (lines undone : List (List ℕ)) (es us : List Edit) → AskForEdits c lines es
      → AskAgain c es undone us → AskForEdits c (take 1 undone ++ lines) (take 1 us ++ es)
      × AskAgain c (take 1 us ++ es) (drop 1 undone) (drop 1 us)
  unfolding AskForEdits AskAgain
  kept_in_redo lines [] es [] asks again = (asks, tt)
  kept_in_redo lines [] es (u ∷ us) asks again = absurd again
  kept_in_redo lines (line ∷ undone) es [] asks again = absurd again
  kept_in_redo lines (line ∷ undone) es (u ∷ us) asks again = ((again.0, asks), again.1)

  kept_in_step : (h : History) (l : EditLines) (line : List ℕ) (s : Step)
      → command_of_line (replay c h.edits) line ≡ Ok (commands.Step s) → AreKept c h l
      → AreKept c (history_after h s) (lines_after_step l line s)
  unfolding AskForEdits AskAgain
  kept_in_step h l line (steps.Edit e) asked kept = record { in_force = (asked, kept.in_force); undone = tt }
  kept_in_step h l line steps.Undo asked kept =
      let both = kept_in_undo l.in_force l.undone h.edits h.undone kept.in_force kept.undone in
      record { in_force = both.0; undone = both.1 }
  kept_in_step h l line steps.Redo asked kept =
      let both = kept_in_redo l.in_force l.undone h.edits h.undone kept.in_force kept.undone in
      record { in_force = both.0; undone = both.1 }
  kept_in_step h l line (steps.Depth depth) asked kept =
      record { in_force = kept.in_force; undone = kept.undone }

  kept_in_command : (h : History) (l : EditLines) (line : List ℕ) (parsed : Result Command LineError)
      → command_of_line (replay c h.edits) line ≡ parsed → AreKept c h l
      → AreKept c (history_after_command h parsed) (lines_after_command l line parsed)
  kept_in_command h l line (Ok (commands.Step s)) asked kept = kept_in_step h l line s asked kept
  kept_in_command h l line parsed asked kept = kept

  kept_in_line : (skipped : ℕ) (h : History) (l : EditLines) (line : List ℕ) → AreKept c h l
      → AreKept c (history_after_line c skipped h line) (lines_after_line c skipped h l line)
  kept_in_line skipped h l line kept = by_test (is_err (line_answer c skipped h line))
    where
      by_test : (b : Bool) → AreKept c
          (if b then h else history_after_command h (command_of_line (replay c h.edits) line))
          (if b then l else lines_after_command l line (command_of_line (replay c h.edits) line))
      by_test true = kept
      by_test false = kept_in_command h l line (command_of_line (replay c h.edits) line) refl kept

  kept_in_lines : (skipped : ℕ) (h : History) (l : EditLines) (lines : List (List ℕ)) → AreKept c h l
      → AreKept c (fold (history_after_line c skipped) h lines) (lines_after c skipped h l lines)
  unfolding lines_after
  kept_in_lines skipped h l [] kept = kept
  kept_in_lines skipped h l (line ∷ lines) kept =
      kept_in_lines skipped (history_after_line c skipped h line) (lines_after_line c skipped h l line) lines
      (kept_in_line skipped h l line kept)

  kept_at_first : (depth : ℕ) → AreKept c (initial_history depth) no_lines
  unfolding AskForEdits AskAgain
  kept_at_first depth = record { in_force = tt; undone = tt }

pub lines_ask_for_edits : LinesInForceAskForEdits
lines_ask_for_edits c skipped depth lines =
    let h : History = initial_history depth in
    let made : EditLines = lines_after c skipped h no_lines lines in
    let kept = kept_in_lines c skipped h no_lines lines (kept_at_first c depth) in
    subst (λ (ls : List (List ℕ)). AskForEdits c ls (last_edits c skipped depth lines))
    (sym (reverse-reverse made.in_force))
    (subst (λ (all : List (List ℕ)). AskForEdits c made.in_force (fold (history_after_line c skipped) h all).edits)
    (sym (take-length lines)) kept.in_force)
