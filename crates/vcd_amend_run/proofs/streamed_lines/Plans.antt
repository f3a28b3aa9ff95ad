-- Plans of lines that are decoded while the file is read: they are of the outline, the edits in force read
-- only heard signals, and the signals of a streamed line are those of the file after the cuts alone.
use Rattle.std.proofs.Common.{◌≡◌, ◌∙◌, ◌⊎◌, inl, inr, ℕ, zero, suc, ◌+◌, ◌-◌, Bool, false, List, [], ◌∷◌, map, length}
use Rattle.std.proofs.Common.{take, get_or, Result, Ok, refl, sym, ap, subst, arith}
use Rattle.std.specs.Prelude.{fold, IfOk, IfSome}
use Rattle.std.specs.List.{AllByRecursion, slice_get}
use Rattle.std.specs.Option.{option_map}
use Rattle.vcd_core.specs.Contents.{Contents}
use Rattle.vcd_core.specs.Outline.{outline}
use Rattle.vcd_text.specs.Words.{words_of}
use Rattle.vcd_edit.specs.declared.edit.Edit.{Edit}
use Rattle.vcd_edit.specs.declared.edit.Edit.TheVariants.{Cut}
use Rattle.vcd_edit.specs.Effect.{effect}
use Rattle.vcd_journal.specs.declared.step.Step.TheVariants as steps
use Rattle.vcd_journal.specs.History.{History, initial_history, replay}
use Rattle.vcd_script.specs.declared.script.command.Command.{Command}
use Rattle.vcd_script.specs.declared.script.command.Command.TheVariants as commands
use Rattle.vcd_script.specs.declared.script.line_error.LineError.{LineError}
use Rattle.vcd_script.specs.CommandSignals.{IsScalarAt}
use Rattle.vcd_script.specs.ScriptCommands.{command_of_line}
use Rattle.vcd_script.specs.Run.{history_after_line, history_at}
use Rattle.vcd_hollow.specs.OtherWaves.{waves_read}
use Rattle.vcd_hollow.specs.Origins.{origins}
use Rattle.vcd_hollow.specs.Cuts.{cuts}
use Rattle.vcd_hollow.specs.HollowRun.{waves_asked, origins_at, AreHeard, EditsReadOwn}
use Rattle.vcd_hollow.proofs.shared.SameSteps.{same_count}
use Rattle.vcd_hollow.proofs.shared.HollowRuns.{command_same, next_same, asked_is_of_outline, edits_read_own}
use Rattle.vcd_remarks.specs.DecoderLines.{decoder_lines, bit_lines}
use Rattle.vcd_amend_run.specs.declared.streamed_line.StreamedLine.{StreamedLine}
use Rattle.vcd_amend_run.specs.inside.StreamedLines.{is_read_by, IsStreamed, IsHeardLine, ArePlanned}
use Rattle.vcd_amend_run.proofs.streamed_lines.LineOrigins.{have_origins, unread_bits, origins_are_scalars}
use Rattle.vcd_amend_run.proofs.streamed_lines.OneBitLines.{HaveOneBit, lines_have_one_bit}

-- ---- captures of one outline

module _ (c d : Contents) (skipped : ℕ) (silent : ℕ → Bool) (same : outline c ≡ outline d) where
  streamed_same : (h : History) (line : List ℕ) (s : StreamedLine) → IsStreamed c h line s → IsStreamed d h line s
  streamed_same h line s is = record {
    command = is.command;
    asked = sym (command_same c d same skipped h line) ∙ is.asked;
    decodes = is.decodes;
    lines = ap (λ n. map (option_map (slice_get (origins n h.edits))) (decoder_lines is.command))
        (sym (same_count c d same)) ∙ is.lines;
    unread = subst (λ n. AllByRecursion (λ line. IfSome line (λ k. is_read_by n h.edits k ≡ false)) s.lines)
        (same_count c d same) is.unread;
    cuts = is.cuts;
  }

  heard_same : (h : History) (line : List ℕ) → IsHeardLine silent c h line → IsHeardLine silent d h line
  heard_same h line = subst (AreHeard silent) (asked_is_of_outline c d h line same)

  after_next : (number : ℕ) (h : History) (line : List ℕ) (lines : List (List ℕ)) (streamed : List StreamedLine)
      → ArePlanned d skipped silent number (history_after_line c skipped h line) lines streamed
      → ArePlanned d skipped silent number (history_after_line d skipped h line) lines streamed
  after_next number h line lines streamed =
      subst (λ (g : History). ArePlanned d skipped silent number g lines streamed) (next_same c d same skipped h line)

  planned_same : (number : ℕ) (h : History) (lines : List (List ℕ)) (streamed : List StreamedLine)
      → ArePlanned c skipped silent number h lines streamed → ArePlanned d skipped silent number h lines streamed
  unfolding ArePlanned
  planned_same number h [] streamed planned = tt
  planned_same number h (line ∷ lines) [] planned = (
    heard_same h line planned.0,
    after_next (number + 1) h line lines []
        (planned_same (number + 1) (history_after_line c skipped h line) lines [] planned.1),
  )
  planned_same number h (line ∷ lines) (s ∷ streamed) (inl is) =
      inl (
        is.0,
        streamed_same h line s is.1,
        after_next (number + 1) h line lines streamed
            (planned_same (number + 1) (history_after_line c skipped h line) lines streamed is.2),
      )
  planned_same number h (line ∷ lines) (s ∷ streamed) (inr is) =
      inr (
        is.0,
        heard_same h line is.1,
        after_next (number + 1) h line lines (s ∷ streamed)
            (planned_same (number + 1) (history_after_line c skipped h line) lines (s ∷ streamed) is.2),
      )

pub planned_is_of_outline : (c d : Contents) (skipped : ℕ) (silent : ℕ → Bool) (number : ℕ) (h : History)
    (lines : List (List ℕ)) (streamed : List StreamedLine) → outline c ≡ outline d
    → ArePlanned c skipped silent number h lines streamed → ArePlanned d skipped silent number h lines streamed
planned_is_of_outline c d skipped silent number h lines streamed same =
    planned_same c d skipped silent same number h lines streamed

-- ---- edits are asked for by lines that are not streamed

module _ (c : Contents) (skipped : ℕ) (silent : ℕ → Bool) where
  abbrev history_after : History → List (List ℕ) → History
  history_after = fold (history_after_line c skipped)

  abbrev IsStreamedOrHeard : History → List ℕ → Type 0
  IsStreamedOrHeard h line = ((s : StreamedLine) × IsStreamed c h line s) ⊎ IsHeardLine silent c h line

  -- past the last line there are only empty ones, which ask for nothing
  line_planned : (number : ℕ) (h : History) (lines : List (List ℕ)) (streamed : List StreamedLine) (i : ℕ)
      → ArePlanned c skipped silent number h lines streamed
      → IsStreamedOrHeard (history_after h (take i lines)) (get_or lines i [])
  unfolding ArePlanned command_of_line words_of
  line_planned number h [] streamed i planned = inr tt
  line_planned number h (line ∷ lines) [] zero planned = inr planned.0
  line_planned number h (line ∷ lines) [] (suc i) planned =
      line_planned (number + 1) (history_after_line c skipped h line) lines [] i planned.1
  line_planned number h (line ∷ lines) (s ∷ streamed) zero (inl is) = inl (s, is.1)
  line_planned number h (line ∷ lines) (s ∷ streamed) zero (inr is) = inr is.1
  line_planned number h (line ∷ lines) (s ∷ streamed) (suc i) (inl is) =
      line_planned (number + 1) (history_after_line c skipped h line) lines streamed i is.2
  line_planned number h (line ∷ lines) (s ∷ streamed) (suc i) (inr is) =
      line_planned (number + 1) (history_after_line c skipped h line) lines (s ∷ streamed) i is.2

  -- what decodes is no edit
  edit_is_heard : (h : History) (line : List ℕ) (e : Edit)
      → command_of_line (replay c h.edits) line ≡ Ok (commands.Step (steps.Edit e))
      → IsStreamedOrHeard h line → AreHeard silent (origins_at (origins (length c.signals) h.edits) (waves_read e))
  edit_is_heard h line e asked (inl (s, is)) =
      let decodes = subst (λ (parsed : Result Command LineError).
      IfOk parsed (λ command. length (decoder_lines command) ≡ 4)) {x = Ok is.command}
      {y = Ok (commands.Step (steps.Edit e))} (sym is.asked ∙ asked) is.decodes in
      absurd (omega (arith, decodes))
  edit_is_heard h line e asked (inr heard) =
      subst (λ (parsed : Result Command LineError).
      AreHeard silent (origins_at (origins (length c.signals) h.edits) (waves_asked parsed))) asked heard

pub planned_reads_own : (c : Contents) (skipped depth : ℕ) (silent : ℕ → Bool) (lines : List (List ℕ))
    (streamed : List StreamedLine) → ArePlanned c skipped silent 1 (initial_history depth) lines streamed
    → EditsReadOwn silent c skipped depth lines
planned_reads_own c skipped depth silent lines streamed planned =
    edits_read_own silent c skipped depth lines
    (λ n e asked. edit_is_heard c skipped silent (history_at c skipped depth lines n) (get_or lines n []) e asked
    (line_planned c skipped silent 1 (initial_history depth) lines streamed n planned))

-- ---- the signals of a streamed line

pub streamed_lines_are : (c : Contents) (h : History) (line : List ℕ) (s : StreamedLine) (is : IsStreamed c h line s)
    → bit_lines (replay c h.edits) (decoder_lines is.command) ≡ bit_lines (replay c (cuts h.edits)) s.lines
streamed_lines_are c h line s is =
    unread_bits c h.edits (decoder_lines is.command) s.lines
    (have_origins (origins (length c.signals) h.edits) (decoder_lines is.command) s.lines is.lines) is.unread

pub streamed_are_scalars : (c : Contents) (h : History) (line : List ℕ) (s : StreamedLine) → IsStreamed c h line s
    → AllByRecursion (λ line. IfSome line (IsScalarAt c)) s.lines
streamed_are_scalars c h line s is =
    origins_are_scalars c h.edits (decoder_lines is.command) s.lines
    (have_origins (origins (length c.signals) h.edits) (decoder_lines is.command) s.lines is.lines)
    (subst (λ (parsed : Result Command LineError).
    IfOk parsed (λ command. HaveOneBit (replay c h.edits) (decoder_lines command))) {y = Ok is.command} is.asked
    (lines_have_one_bit (replay c h.edits) line))

-- cuts alone move the end
pub streamed_end : (c : Contents) (es : List Edit) → (replay c es).end ≡ (replay c (cuts es)).end
unfolding replay cuts effect
streamed_end c [] = refl
streamed_end c (Cut from to ∷ es) = ap (λ end. end - (to - from)) (streamed_end c es)
streamed_end c (e ∷ es) = streamed_end c es
