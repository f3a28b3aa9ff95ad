-- What lines write on a machine is what the equations of a run say of its history.
use Rattle.std.proofs.Common.{ap₂, ◌≡◌, ◌≤◌, ◌+◌, ℕ, cond, List, [], ◌∷◌, ◌++◌, take, length, Result, Ok, is_err, refl}
use Rattle.std.proofs.Common.{sym, ◌∙◌, ap, subst, map, append_assoc}
use Rattle.std.specs.Prelude.{fold, count_by}
use Rattle.std.specs.List.{enumerate_from}
use Rattle.std.proofs.Math.Seq.{take-length, take-append_seam}
use Rattle.std.proofs.lemmas.List.{length-append}
use Rattle.std.proofs.lemmas.List.Sums.{sum_by-cons, fold-append}
use Rattle.vcd_core.specs.Contents.{Contents}
use Rattle.vcd_core.specs.declared.capture.TheConstants.{SIGNAL_LIMIT}
use Rattle.vcd_text.specs.Text.{text}
use Rattle.vcd_text.specs.Meaning.{FileMeans}
use Rattle.vcd_journal.specs.declared.step.Step.{Step}
use Rattle.vcd_journal.specs.declared.step.Answer.{Answer}
use Rattle.vcd_journal.specs.declared.step.Answer.TheVariants.{Done, Refused}
use Rattle.vcd_journal.specs.History.{History, initial_history, replay, history_after}
use Rattle.vcd_journal.specs.Machine.{Machine, initial_machine, step_outcome}
use Rattle.vcd_journal.specs.HistoryMachine.{machine_of, history_after_answer}
use Rattle.vcd_journal.proofs.shared.Replay.{IsMachineOf, past_count, future_count, outcome_follows, first_follows}
use Rattle.vcd_script.specs.declared.script.command.Command.{Command}
use Rattle.vcd_script.specs.declared.script.command.Command.TheVariants as commands
use Rattle.vcd_script.specs.declared.script.line_error.LineError.{LineError}
use Rattle.vcd_script.specs.Script.{script_lines}
use Rattle.vcd_script.specs.ScriptCommands.{command_of_line}
use Rattle.vcd_script.specs.Reply.{LineReply, line_reply, command_reply, reply_text}
use Rattle.vcd_script.specs.Run.{IsRun, history_after_command, line_answer, history_after_line, answers, capture_at}
use Rattle.vcd_script.specs.Run.{outcome}
use Rattle.vcd_script.specs.inside.running.LineAnswers.{line_answers}
use Rattle.vcd_script.specs.SessionLines.{machine_after_command, machine_after_line, machine_after_lines, answer_on}
use Rattle.vcd_script.specs.SessionLines.{refusal_count, line_replies}
use Rattle.vcd_script.specs.inside.replies.Answering.{answer_reply}
use Rattle.vcd_script.proofs.shared.AnsweredLines.{reply_is_answer}

-- ---- a line

pub answer_is : (c : Contents) (h : History) (m : Machine) (skipped : ℕ) (line : List ℕ) → IsMachineOf c h m
    → answer_on skipped line m ≡ line_answer c skipped h line
answer_is c h m skipped line is =
    let held = past_count c h is.undoable in
    let undone = future_count c h.edits h.undone in
    ap (answer_on skipped line) is.is ∙ λ i. line_reply line (replay c h.edits) skipped (held i) (undone i)

-- the history after a step, by the reply to it
by_reply : (h : History) (s : Step) (a : Answer)
    → history_after_answer h s a ≡ cond (is_err (answer_reply a)) h (history_after h s)
by_reply h s Done = refl
by_reply h s (Refused refusal) = refl

-- what a line asks for, on the machine of a history
command_follows : (c : Contents) (h : History) (skipped : ℕ) (parsed : Result Command LineError)
    → h.undoable ≤ length h.edits →
    IsMachineOf c (cond (is_err (command_reply parsed (replay c h.edits) skipped (length (machine_of c h).past)
    (length (machine_of c h).future))) h (history_after_command h parsed))
    (machine_after_command (machine_of c h) parsed)
command_follows c h skipped (Ok (commands.Step s)) within =
    let m : Machine = machine_of c h in
    subst (λ (g : History). IsMachineOf c g (step_outcome m s).after)
    (by_reply h s (step_outcome m s).answer
    ∙ ap (λ (r : LineReply). cond (is_err r) h (history_after h s)) (sym (reply_is_answer m s)))
    (outcome_follows c h s within)
command_follows c h skipped asked within = record { is = refl; undoable = within }

pub line_follows : (c : Contents) (h : History) (m : Machine) (skipped : ℕ) (line : List ℕ) → IsMachineOf c h m
    → IsMachineOf c (history_after_line c skipped h line) (machine_after_line m line)
unfolding line_reply machine_after_line
line_follows c h m skipped line is =
    let asked : Result Command LineError = command_of_line (replay c h.edits) line in
    let here : IsMachineOf c h (machine_of c h) = record { is = refl; undoable = is.undoable } in
    subst (λ (n : Machine). IsMachineOf c (history_after_line c skipped h line) (machine_after_line n line)) (sym is.is)
    (subst (λ (r : LineReply). IsMachineOf c (cond (is_err r) h (history_after_command h asked))
    (machine_after_command (machine_of c h) asked)) (answer_is c h (machine_of c h) skipped line here)
    (command_follows c h skipped asked is.undoable))

-- ---- lines

pub lines_follow : (c : Contents) (h : History) (m : Machine) (skipped : ℕ) (lines : List (List ℕ)) → IsMachineOf c h m
    → IsMachineOf c (fold (history_after_line c skipped) h lines) (machine_after_lines m lines)
unfolding machine_after_lines
lines_follow c h m skipped [] is = is
lines_follow c h m skipped (line ∷ lines) is =
    lines_follow c (history_after_line c skipped h line) (machine_after_line m line) skipped lines
    (line_follows c h m skipped line is)

-- the answers as texts, the first of this number
abbrev numbered : ℕ → List LineReply → List (List ℕ)
numbered number replies = map (λ (p : ℕ × LineReply). reply_text p.0 p.1) (enumerate_from number replies)

replies_are : (c : Contents) (h : History) (m : Machine) (skipped number : ℕ) (lines : List (List ℕ))
    → IsMachineOf c h m → line_replies skipped number m lines ≡ numbered number (line_answers c skipped h lines)
unfolding line_replies line_answers
replies_are c h m skipped number [] is = refl
replies_are c h m skipped number (line ∷ lines) is =
    let first = ap (reply_text number) (answer_is c h m skipped line is) in
    let rest = replies_are c (history_after_line c skipped h line) (machine_after_line m line) skipped (number + 1)
    lines (line_follows c h m skipped line is) in
    λ i. first i ∷ rest i

refusals_are : (c : Contents) (h : History) (m : Machine) (skipped : ℕ) (lines : List (List ℕ)) → IsMachineOf c h m
    → refusal_count skipped m lines ≡ count_by is_err (line_answers c skipped h lines)
unfolding refusal_count line_answers
refusals_are c h m skipped [] is = refl
refusals_are c h m skipped (line ∷ lines) is =
    let one : LineReply → ℕ = λ r. cond (is_err r) 1 0 in
    let rest = refusals_are c (history_after_line c skipped h line) (machine_after_line m line) skipped
    lines (line_follows c h m skipped line is) in
    ap₂ (λ (a b : ℕ). a + b) (ap one (answer_is c h m skipped line is)) rest
    ∙ sym (sum_by-cons one (line_answer c skipped h line)
    (line_answers c skipped (history_after_line c skipped h line) lines))

-- the same answers, each with the history after the lines before it
answers_from : (c : Contents) (skipped : ℕ) (h : History) (before lines : List (List ℕ)) →
    map (λ (p : ℕ × List ℕ). line_answer c skipped
    (fold (history_after_line c skipped) h (take p.0 (before ++ lines))) p.1) (enumerate_from (length before) lines)
    ≡ line_answers c skipped (fold (history_after_line c skipped) h before) lines
unfolding line_answers
answers_from c skipped h before [] = refl
answers_from c skipped h before (line ∷ lines) =
    let step : History → List ℕ → History = history_after_line c skipped in
    let answers_at : List (List ℕ) → ℕ → List LineReply = λ all n.
    map (λ (p : ℕ × List ℕ). line_answer c skipped (fold step h (take p.0 all)) p.1) (enumerate_from n lines) in
    let first = ap (λ (ls : List (List ℕ)). line_answer c skipped (fold step h ls) line)
    (take-append_seam before (line ∷ lines)) in
    let rest : answers_at (before ++ line ∷ lines) (length before + 1)
    ≡ line_answers c skipped (step (fold step h before) line) lines =
    sym (ap (λ (all : List (List ℕ)). answers_at all (length before + 1)) (append_assoc before (line ∷ []) lines))
    ∙ sym (ap (answers_at ((before ++ line ∷ []) ++ lines)) (length-append before (line ∷ [])))
    ∙ answers_from c skipped h (before ++ line ∷ []) lines
    ∙ ap (λ (g : History). line_answers c skipped g lines) (fold-append step h before (line ∷ [])) in
    λ i. first i ∷ rest i

pub answers_are : (c : Contents) (skipped depth : ℕ) (lines : List (List ℕ))
    → line_answers c skipped (initial_history depth) lines ≡ answers c skipped depth lines
answers_are c skipped depth lines = sym (answers_from c skipped (initial_history depth) [] lines)

-- ---- runs

-- the capture that the machine is left with
pub last_capture : (c : Contents) (skipped depth : ℕ) (lines : List (List ℕ))
    → capture_at c skipped depth lines (length lines) ≡ (machine_after_lines (initial_machine c depth) lines).now
last_capture c skipped depth lines =
    let m : Machine = initial_machine c depth in
    let h : History = initial_history depth in
    ap (λ (ls : List (List ℕ)). replay c (fold (history_after_line c skipped) h ls).edits) (take-length lines)
    ∙ ap (λ (n : Machine). n.now) (sym (lines_follow c h m skipped lines (first_follows c depth)).is)

-- what the machine writes where lines are run
pub outcome_is : (c : Contents) (skipped depth : ℕ) (lines : List (List ℕ)) → outcome c skipped depth lines
    ≡ record {
      replies = line_replies skipped 1 (initial_machine c depth) lines;
      output = text (machine_after_lines (initial_machine c depth) lines).now;
      refused = refusal_count skipped (initial_machine c depth) lines;
    }
outcome_is c skipped depth lines =
    let m : Machine = initial_machine c depth in
    let h : History = initial_history depth in
    let first = first_follows c depth in
    let here = answers_are c skipped depth lines in
    let replies = sym (replies_are c h m skipped 1 lines first ∙ ap (numbered 1) here) in
    let refused = sym (refusals_are c h m skipped lines first ∙ ap (count_by is_err) here) in
    let last = last_capture c skipped depth lines in
    λ i. record { replies = replies i; output = text (last i); refused = refused i }

-- what the equations say is what a run writes, as a file means one thing
pub run_is : (file script : List ℕ) (depth : ℕ) (c : Contents) (skipped : ℕ) → FileMeans SIGNAL_LIMIT file c skipped
    → IsRun file script depth (outcome c skipped depth (script_lines script))
run_is file script depth c skipped means = record {
  contents = c;
  skipped = skipped;
  means = means;
  run = refl;
}
