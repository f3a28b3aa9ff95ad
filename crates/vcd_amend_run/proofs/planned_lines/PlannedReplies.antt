-- The replies to planned lines so far, and a fault that ends them.
use Rattle.std.proofs.Common.{◌≡◌, ◌≤◌, ◌+◌, ◌-◌, ℕ, suc, Bool, true, cond, List, [], ◌∷◌, ◌++◌, length, take}
use Rattle.std.proofs.Common.{Option, refl, sym, ap, subst, ◌∙◌, ap₂, arith}
use Rattle.std.specs.List.{concat}
use Rattle.std.specs.Io.KnownBytes.{Appends, Keeps}
use Rattle.std.proofs.KnownBytes.{Appends-trans, Appends-nil, Appends-kept}
use Rattle.std.proofs.Math.Seq.{take-append-add, take-length}
use Rattle.std.proofs.lemmas.List.{append-nil, length-append, take-append-le, take_at}
use Rattle.std.proofs.lemmas.List.Folds.{concat-append}
use Rattle.vcd_core.specs.Contents.{Contents}
use Rattle.vcd_hollow.proofs.shared.FittingCuts.{cuts_of_run_fit}
use Rattle.vcd_journal.specs.HistoryMachine.{machine_of}
use Rattle.vcd_journal.specs.Machine.{Machine, initial_machine}
use Rattle.vcd_script.specs.LineRunEnds.{RunsLines}
use Rattle.vcd_script.specs.Run.{history_at}
use Rattle.vcd_script.specs.SessionLines.{machine_after_line, machine_after_lines, line_replies, refusal_count}
use Rattle.vcd_script.specs.SessionLines.{reply_on, is_refused_on}
use Rattle.vcd_script.proofs.shared.LawsOfRun.{run_laws}
use Rattle.vcd_text.specs.declared.fault.ReadError.{ReadError}
use Rattle.vcd_amend_run.specs.AmendRunEnds.{counted}
use Rattle.vcd_amend_run.specs.declared.line_pass.PassFault.{PassFault}
use Rattle.vcd_amend_run.specs.declared.line_pass.PassFault.TheVariants as faults
use Rattle.vcd_amend_run.specs.declared.planned_lines.line_taken.LineTaken.{LineTaken}
use Rattle.vcd_amend_run.specs.declared.running.AmendRunError.TheVariants as errors
use Rattle.vcd_script.specs.declared.running.run_error.RunError.TheVariants as run_errors
use Rattle.vcd_amend_run.specs.declared.streamed_line.StreamedLine.{StreamedLine}
use Rattle.vcd_amend_run.specs.inside.LinePass.{StopsFor}
use Rattle.vcd_amend_run.specs.inside.PlannedLine.{streamed_here, IsPlannedAt, TakesReply, error_at_line}
use Rattle.vcd_amend_run.specs.inside.PlannedLines.{IsPlannedOn, TookReplies, StopsInPlanned, EndsInPlanned}
use Rattle.vcd_amend_run.proofs.planned_lines.LinesAfter.{AreLeftAfter, all_done, replies_more, refusals_more}
use Rattle.vcd_amend_run.proofs.planned_lines.LinesAfter.{replies_to_both}
use Rattle.vcd_amend_run.proofs.planned_lines.PlannedMachines.{MachinesSoFar, first_planned}
use Rattle.vcd_amend_run.proofs.streamed_lines.Plans.{planned_reads_own}

-- what is known of a line
pub planned_at : (file : List ℕ) (skipped depth : ℕ) (lines : List (List ℕ)) (all : List StreamedLine) (old : Machine)
    (c : Contents) (silent : ℕ → Bool) → IsPlannedOn file skipped depth lines all old c silent
    → (number : ℕ) (left : List (List ℕ)) (line : List ℕ) (streamed : List StreamedLine) (now : Machine)
    → MachinesSoFar silent c skipped depth lines number (line ∷ left) streamed old now
    → IsPlannedAt file skipped c silent (history_at c skipped depth lines number) line
    (streamed_here (number + 1) streamed)
planned_at file skipped depth lines all old c silent on number left line streamed now so =
    let laws = run_laws depth file c skipped lines on.means in
    record {
      means = on.means;
      sound = laws.sound number;
      own = planned_reads_own c skipped depth silent lines all on.planned number;
      cuts_fit = cuts_of_run_fit c skipped depth lines number;
      undoable = laws.undoable number;
      planned = (first_planned c skipped silent (number + 1) (history_at c skipped depth lines number) line left
          streamed so.planned).0;
    }

counted_sum : (a b x y : ℕ) → x ≡ counted a → y ≡ counted b → counted (x + y) ≡ counted (a + b)
counted_sum a b x y first second = omega (arith, first, second)

counted_part : (a b x : ℕ) → x ≡ counted a → counted (x + b) ≡ counted (a + b)
counted_part a b x first = omega (arith, first)

one_each : (skipped number : ℕ) (m : Machine) (lines : List (List ℕ))
    → length (line_replies skipped number m lines) ≡ length lines
unfolding line_replies
one_each skipped number m [] = refl
one_each skipped number m (line ∷ lines) = ap suc (one_each skipped (number + 1) (machine_after_line m line) lines)

module _ (c : Contents) (skipped depth : ℕ) (lines : List (List ℕ)) where
  abbrev first : Machine
  first = initial_machine c depth

  abbrev done : ℕ → List (List ℕ)
  done number = line_replies skipped 1 first (take number lines)

  -- the replies to the first lines are written
  pub record RepliedSoFar (number refused written : ℕ) (before after : Option (List ℕ)) : Type 0 where
    pub took : Appends before after (concat (done number))
    pub count : written ≡ counted (length (concat (done number)))
    pub refusals : refused ≡ refusal_count skipped first (take number lines)

  pub none_replied : (before : Option (List ℕ)) → RepliedSoFar 0 0 0 before before
  unfolding line_replies refusal_count
  none_replied before = record { took = Appends-nil before; count = omega arith; refusals = refl }

  module _ (number : ℕ) (left : List (List ℕ)) (line : List ℕ) (after : AreLeftAfter lines number (line ∷ left))
      (same : machine_after_lines first (take number lines) ≡ machine_of c (history_at c skipped depth lines number))
    where
      abbrev text : List ℕ
      text = reply_on skipped (number + 1) line (machine_of c (history_at c skipped depth lines number))

      joined : concat (done (number + 1)) ≡ concat (done number) ++ text
      joined = replies_more after skipped first
          ∙ ap (λ (m : Machine). concat (done number) ++ reply_on skipped (number + 1) line m) same

      pub replied_more : (refused written more : ℕ) (here : Option StreamedLine) (taken : LineTaken)
          (before between new : Option (List ℕ)) → RepliedSoFar number refused written before between
          → TakesReply skipped (number + 1) c (history_at c skipped depth lines number) line here between new taken
          → more ≡ cond taken.is_refused 1 0
          → RepliedSoFar (number + 1) (refused + more) (counted (written + taken.written)) before new
      replied_more refused written more here taken before between new so takes more_is = record {
        took = subst (Appends before new) (sym joined)
            (Appends-trans before between new (concat (done number)) text so.took takes.text);
        count = counted_sum (length (concat (done number))) (length text) written taken.written so.count takes.count
            ∙ ap counted (sym (ap length joined ∙ length-append (concat (done number)) text));
        refusals = ap₂ (λ (a b : ℕ). a + b) so.refusals
            (more_is ∙ ap (λ (b : Bool). cond b 1 0) takes.refused)
            ∙ ap (λ (m : Machine). refusal_count skipped first (take number lines)
            + cond (is_refused_on skipped line m) 1 0) (sym same)
            ∙ sym (refusals_more after skipped first);
      }

      -- ---- a fault at this line

      abbrev later : List (List ℕ)
      later = line_replies skipped (1 + length (take number lines) + 1)
          (machine_after_line (machine_after_lines first (take number lines)) line) left

      parts : line_replies skipped 1 first lines ≡ done number ++ text ∷ later
      unfolding line_replies
      parts =
          let n : 1 + length (take number lines) ≡ number + 1 = omega (arith, after.count) in
          ap (line_replies skipped 1 first) after.parts
          ∙ replies_to_both skipped 1 first (take number lines) (line ∷ left)
          ∙ ap (λ k. done number ++ reply_on skipped k line (machine_after_lines first (take number lines)) ∷ later) n
          ∙ ap (λ (m : Machine). done number ++ reply_on skipped (number + 1) line m ∷ later) same

      as_many : length (done number) ≡ number
      as_many = one_each skipped 1 first (take number lines) ∙ after.count

      all_text : concat (line_replies skipped 1 first lines) ≡ concat (done number) ++ (text ++ concat later)
      all_text = ap concat parts ∙ concat-append (done number) (text ∷ later)

      all_length : length (concat (line_replies skipped 1 first lines))
          ≡ length (concat (done number)) + (length text + length (concat later))
      all_length = ap length all_text ∙ length-append (concat (done number)) (text ++ concat later)
          ∙ ap (λ n. length (concat (done number)) + n) (length-append text (concat later))

      took_first : (count : ℕ) (before between mid new : Option (List ℕ)) → count ≤ length text
          → Appends before between (concat (done number)) → Appends between mid (take count text) → Keeps mid new
          → TookReplies (line_replies skipped 1 first lines) before new (length (concat (done number)) + count)
      took_first count before between mid new few took taken kept =
          let prefix : take (length (concat (done number)) + count) (concat (line_replies skipped 1 first lines))
          ≡ concat (done number) ++ take count text =
          ap (take (length (concat (done number)) + count)) all_text
          ∙ take-append-add (concat (done number)) (text ++ concat later) count
          ∙ ap (λ l. concat (done number) ++ l) (take-append-le count text (concat later) few) in (
            omega (arith, all_length, few),
            subst (Appends before new) (sym prefix)
                (Appends-kept before mid new (concat (done number) ++ take count text)
                (Appends-trans before between mid (concat (done number)) (take count text) took taken) kept),
          )

      before_line : (line_number : ℕ) → line_number ≡ number + 1
          → take (line_number - 1) (line_replies skipped 1 first lines) ≡ done number
      before_line line_number at =
          ap (take (line_number - 1)) parts ∙ take_at (done number) (text ∷ later) (line_number - 1)
          (omega (arith, at, as_many))

      up_to_line : concat (take (number + 1) (line_replies skipped 1 first lines)) ≡ concat (done number) ++ text
      up_to_line =
          ap (λ (l : List (List ℕ)). concat (take (number + 1) l)) parts
          ∙ ap (λ n. concat (take (n + 1) (done number ++ text ∷ later))) (sym as_many)
          ∙ ap concat (take-append-add (done number) (text ∷ later) 1)
          ∙ concat-append (done number) (text ∷ [])
          ∙ ap (λ l. concat (done number) ++ l) (append-nil text)

      pub line_stops : (read_fails : ReadError → Type 0) (replies_failed : Bool) (refused written count : ℕ)
          (before between mid new : Option (List ℕ)) (e : PassFault)
          → RepliedSoFar number refused written before between
          → (count ≤ length text) × Appends between mid (take count text) → Keeps mid new
          → StopsFor read_fails replies_failed count e
          → StopsInPlanned read_fails (line_replies skipped 1 first lines) before new
          (error_at_line (number + 1) written e)
      line_stops read_fails replies_failed refused written count before between mid new (faults.Read e) so (few, taken)
          kept stops =
          let took = took_first count before between mid new few so.took taken kept in
          (stops.0, length (concat (done number)) + count, took)
      line_stops read_fails replies_failed refused written count before between mid new faults.NoMemory so (few, taken)
          kept stops =
          let took = took_first count before between mid new few so.took taken kept in
          let whole : length (line_replies skipped 1 first lines) ≡ length (done number) + suc (length later) =
          ap length parts ∙ length-append (done number) (text ∷ later) in
          let least : length (concat (take (number + 1 - 1) (line_replies skipped 1 first lines)))
          ≡ length (concat (done number)) =
          ap (λ (l : List (List ℕ)). length (concat l)) (before_line (number + 1) refl) in
          let most : length (concat (take (number + 1) (line_replies skipped 1 first lines)))
          ≡ length (concat (done number)) + length text =
          ap length up_to_line ∙ length-append (concat (done number)) text in (
            omega arith,
            omega (arith, whole, as_many),
            length (concat (done number)) + count,
            omega (arith, least),
            omega (arith, most, few),
            took,
          )
      line_stops read_fails replies_failed refused written count before between mid new (faults.Reply bytes) so
          (few, taken) kept stops =
          let took = took_first count before between mid new few so.took taken kept in (
            length (concat (done number)) + count,
            counted_sum (length (concat (done number))) count written bytes so.count stops.1,
            took,
          )

  -- ---- after the last line

  pub all_replied : (number refused written : ℕ) (left : List (List ℕ)) (before between new : Option (List ℕ))
      → AreLeftAfter lines number left → left ≡ [] → RepliedSoFar number refused written before between
      → Keeps between new → RunsLines skipped lines first (machine_after_lines first lines) refused before new
  all_replied number refused written left before between new after none so kept =
      let all = all_done after none in (
        line_replies skipped 1 first lines,
        subst (λ (ls : List (List ℕ)). Appends before new (concat (line_replies skipped 1 first ls))) all
            (Appends-kept before between new (concat (done number)) so.took kept),
        record {
          after = refl;
          replies = refl;
          refused = sym (so.refusals ∙ ap (refusal_count skipped first) all);
        },
      )

  pub flush_stops : (read_fails : ReadError → Type 0) (number refused written : ℕ) (left : List (List ℕ))
      (before between new : Option (List ℕ)) → AreLeftAfter lines number left → left ≡ []
      → RepliedSoFar number refused written before between → Keeps between new
      → StopsInPlanned read_fails (line_replies skipped 1 first lines) before new
      (errors.Run (run_errors.ReplyFault written))
  flush_stops read_fails number refused written left before between new after none so kept =
      let same : concat (done number) ≡ concat (line_replies skipped 1 first lines) =
      ap (λ (ls : List (List ℕ)). concat (line_replies skipped 1 first ls)) (all_done after none) in (
        length (concat (line_replies skipped 1 first lines)),
        so.count ∙ ap (λ (l : List ℕ). counted (length l)) same,
        (
          omega arith,
          subst (Appends before new) (same ∙ sym (take-length (concat (line_replies skipped 1 first lines))))
              (Appends-kept before between new (concat (done number)) so.took kept),
        ),
      )

-- whatever the file
pub line_ends : (read_fails : ReadError → Type 0) (failed_before failed_after : Bool) (number written count : ℕ)
    (e : PassFault) → (failed_before ≡ true → failed_after ≡ true) → StopsFor read_fails failed_before count e
    → EndsInPlanned read_fails failed_after (error_at_line (number + 1) written e)
line_ends read_fails failed_before failed_after number written count (faults.Read e) stays stops = stops.0
line_ends read_fails failed_before failed_after number written count faults.NoMemory stays stops = omega arith
line_ends read_fails failed_before failed_after number written count (faults.Reply bytes) stays stops = stays stops.0
