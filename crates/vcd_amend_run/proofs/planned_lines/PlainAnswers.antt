-- A line that asks for no silent signal has the same reply where these have no changes.
use Rattle.std.proofs.Common.{◌≡◌, ◌≤◌, ℕ, Bool, List, length, take, Option, None, refl, sym, ap, subst, ◌∙◌, is_err}
use Rattle.std.specs.Prelude.{IfOk}
use Rattle.std.specs.Io.KnownBytes.{Appends}
use Rattle.vcd_core.specs.Contents.{Contents}
use Rattle.vcd_hollow.specs.Hollow.{hollow}
use Rattle.vcd_hollow.proofs.shared.HollowRuns.{answer_on_hollow}
use Rattle.vcd_journal.specs.History.{History, replay}
use Rattle.vcd_journal.specs.HistoryMachine.{machine_of}
use Rattle.vcd_journal.specs.Machine.{Machine}
use Rattle.vcd_script.specs.Reply.{LineReply, reply_text}
use Rattle.vcd_script.specs.SessionLines.{answer_on, reply_on}
use Rattle.vcd_script.proofs.shared.LinesAndHistory.{answer_is}
use Rattle.vcd_text.specs.declared.fault.ReadError.{ReadError}
use Rattle.vcd_amend_run.specs.AmendRunEnds.{counted}
use Rattle.vcd_amend_run.specs.declared.line_pass.PassFault.{PassFault}
use Rattle.vcd_amend_run.specs.declared.line_pass.PassFault.TheVariants as faults
use Rattle.vcd_amend_run.specs.declared.planned_lines.line_taken.LineTaken.{LineTaken}
use Rattle.vcd_amend_run.specs.declared.planned_lines.line_taken.PlannedLine.{PlannedLine}
use Rattle.vcd_amend_run.specs.declared.streamed_line.StreamedLine.{StreamedLine}
use Rattle.vcd_amend_run.specs.inside.LinePass.{StopsFor}
use Rattle.vcd_amend_run.specs.inside.PlannedLine.{IsPlannedAt, AnswersPlain, StopsAtPlain}
use Rattle.vcd_amend_run.specs.inside.PlannedLine.{AnswersPlanned, StopsAtPlanned, streamed_at, remarks_after}

answer_same : (file : List ℕ) (skipped : ℕ) (c : Contents) (silent : ℕ → Bool) (h : History) (line : List ℕ)
    → IsPlannedAt file skipped c silent h line None
    → answer_on skipped line (machine_of (hollow silent c) h) ≡ answer_on skipped line (machine_of c h)
answer_same file skipped c silent h line at =
    answer_is (hollow silent c) h (machine_of (hollow silent c) h) skipped line
    (record { is = refl; undoable = at.undoable })
    ∙ answer_on_hollow silent c skipped h line at.own at.planned
    ∙ sym (answer_is c h (machine_of c h) skipped line (record { is = refl; undoable = at.undoable }))

module _ (shown : Option (List ℕ)) (l : PlannedLine) (old : Machine) (none : streamed_at l ≡ None)
    (before after : Option (List ℕ)) where
  planned_so : (file : List ℕ) (c : Contents) (silent : ℕ → Bool) (h : History)
      → IsPlannedAt file l.skipped c silent h l.text.now (streamed_at l)
      → IsPlannedAt file l.skipped c silent h l.text.now None
  planned_so file c silent h at =
      subst (λ (here : Option StreamedLine). IsPlannedAt file l.skipped c silent h l.text.now here) none at

  same : (file : List ℕ) (c : Contents) (silent : ℕ → Bool) (h : History)
      → IsPlannedAt file l.skipped c silent h l.text.now (streamed_at l) → old ≡ machine_of (hollow silent c) h
      → answer_on l.skipped l.text.now old ≡ answer_on l.skipped l.text.now (machine_of c h)
  same file c silent h at machine =
      ap (answer_on l.skipped l.text.now) machine
      ∙ answer_same file l.skipped c silent h l.text.now (planned_so file c silent h at)

  pub plain_answers : (new : Machine) (taken : LineTaken) → AnswersPlain l old new before after taken
      → AnswersPlanned shown l old before after taken
  plain_answers new taken answers file c silent h is at machine =
      let reply = same file c silent h at machine in
      let text : reply_on l.skipped l.number l.text.now old ≡ reply_on l.skipped l.number l.text.now (machine_of c h) =
      ap (reply_text l.number) reply in
      record {
        text = subst (Appends before after) text answers.1;
        count = answers.2 ∙ ap (λ (t : List ℕ). counted (length t)) text;
        refused = answers.3 ∙ ap (λ (r : LineReply). is_err r) reply;
        remarks = subst (λ (here : Option StreamedLine). IfOk taken.remarks (λ text. text.items
            ≡ remarks_after l.number (replay c h.edits) l.text.now here)) (sym none) answers.4;
      }

  plain_stops : (count : ℕ) → StopsAtPlain l old before after count
      → StopsAtPlanned shown l old before after count
  plain_stops count stops file c silent h is at machine =
      subst (λ (t : List ℕ). (count ≤ length t) × Appends before after (take count t))
      (ap (reply_text l.number) (same file c silent h at machine)) stops

  -- it reads no file
  stops_for : (read_fails : ReadError → Type 0) (replies_failed : Bool) (count : ℕ) (e : PassFault)
      → StopsFor (λ _. ⊥) replies_failed count e → StopsFor read_fails replies_failed count e
  stops_for read_fails replies_failed count (faults.Read e) stops = absurd stops.0
  stops_for read_fails replies_failed count faults.NoMemory stops = stops
  stops_for read_fails replies_failed count (faults.Reply written) stops = stops

  pub plain_ends : (read_fails : ReadError → Type 0) (replies_failed : Bool) (e : PassFault)
      → ((count : ℕ) × StopsAtPlain l old before after count × StopsFor (λ _. ⊥) replies_failed count e)
      → (count : ℕ) × StopsAtPlanned shown l old before after count × StopsFor read_fails replies_failed count e
  plain_ends read_fails replies_failed e (count, some, stops) =
      (count, plain_stops count some, stops_for read_fails replies_failed count e stops)
