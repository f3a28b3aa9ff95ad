-- The parts of a run, put together.
use Rattle.std.proofs.Common.{◌≡◌, ◌⊎◌, inl, inr, Result, Ok, Err, ℕ, zero, suc, ◌-◌, List, Option, Some, None, refl}
use Rattle.std.proofs.Common.{◌≤◌, Bool, sym, subst, ap, ◌∙◌, true, false, arith, length, take}
use Rattle.std.specs.Prelude.{IfSome, IfErr, IsErrAnd}
use Rattle.std.proofs.lemmas.Option.{IfSome_then}
use Rattle.std.specs.List.{concat}
use Rattle.std.specs.Io.KnownBytes.{Appends, IsAtEnd}
use Rattle.vcd_core.specs.Contents.{Contents}
use Rattle.vcd_core.specs.declared.capture.TheConstants.{SIGNAL_LIMIT}
use Rattle.vcd_core.specs.Devices.{DeviceEnd, IsRead, IsUntouched, HasText}
use Rattle.vcd_text.specs.Meaning.{FileMeans}
use Rattle.vcd_text.specs.Refusals.{IsRefusal, IsOnlyRefusal}
use Rattle.vcd_text.proofs.shared.FoundFault.{one_refusal}
use Rattle.vcd_text.specs.Text.{text}
use Rattle.vcd_text.specs.WriteEnds.{TookBefore}
use Rattle.vcd_text.specs.declared.reading.TheConstants.{FILE_LIMIT}
use Rattle.vcd_script.specs.declared.running.script_input.TheConstants.{SCRIPT_LIMIT}
use Rattle.vcd_text.specs.declared.fault.Fault.TheVariants as faults
use Rattle.vcd_text.specs.declared.fault.ReadError.{ReadError}
use Rattle.vcd_text.specs.declared.fault.WriteError.{WriteError}
use Rattle.vcd_text.specs.declared.fault.WriteError.TheVariants as write_errors
use Rattle.vcd_journal.specs.Machine.{Machine, initial_machine}
use Rattle.vcd_script.specs.declared.running.run_error.RunError.{RunError}
use Rattle.vcd_script.specs.declared.running.run_error.RunError.TheVariants as run_errors
use Rattle.vcd_script.specs.declared.running.run_error.Summary.{Summary}
use Rattle.vcd_script.specs.Script.{script_lines}
use Rattle.vcd_script.specs.Run.{RunOutcome, outcome}
use Rattle.vcd_script.specs.RunEnds.{IsAccepted, IsFlushedAt, ForRun, RunEnds}
use Rattle.vcd_script.specs.LineRunEnds.{HasFailedAt, EndsAtLine, RunsLines, StopsInReplies, StopsInLines}
use Rattle.vcd_script.specs.ScriptFaults.{ScriptFails}
use Rattle.vcd_script.specs.inside.running.Stages.{EndsBeforeOutput, EndsBeforeReplies}
use Rattle.vcd_script.specs.inside.running.Run.{ScriptGives}
use Rattle.vcd_script.proofs.shared.LinesAndHistory.{outcome_is, run_is}

-- ---- the capture

-- what a file within the limit means
pub file_means : (coming : Option (List ℕ)) (c : Contents) (skipped : ℕ)
    → IfSome coming (λ f. (length f ≤ FILE_LIMIT) × FileMeans SIGNAL_LIMIT f c skipped)
    → IfSome coming (λ f. FileMeans SIGNAL_LIMIT f c skipped)
file_means coming c skipped read = IfSome_then coming read (λ f is. is.1)

-- a capture that was read to its end, within the limit, and means something
pub is_accepted : (capture : DeviceEnd) (c : Contents) (skipped : ℕ) → capture.has_failed ≡ false
    → IsAtEnd capture.after → IfSome capture.before (λ f. (length f ≤ FILE_LIMIT) × FileMeans SIGNAL_LIMIT f c skipped)
    → IsAccepted capture
is_accepted capture c skipped ready ended read = (
  (ready, ended, IfSome_then capture.before read (λ f is. is.0)),
  IfSome_then capture.before read (λ f is. (c, skipped, is.1)),
)

-- ---- the result of the script

-- the lines of the script, run from this capture
script_gives : (coming : Option (List ℕ)) (script : List ℕ) (depth skipped : ℕ) (c : Contents) (new : Machine)
    (count : ℕ) (before after : Option (List ℕ)) →
    IfSome coming (λ f. FileMeans SIGNAL_LIMIT f c skipped)
    → RunsLines skipped (script_lines script) (initial_machine c depth) new count before after
    → ScriptGives coming script depth count (Appends before after) new.now
script_gives coming script depth skipped c new count before after means ran =
    let here = ran.2 in
    let is = outcome_is c skipped depth (script_lines script) in
    let replies = ap (λ (o : RunOutcome). o.replies) is ∙ here.replies in
    record {
      contents = c;
      skipped = skipped;
      means = means;
      replies = subst (λ (texts : List (List ℕ)). Appends before after (concat texts)) (sym replies) ran.1;
      refused = ap (λ (o : RunOutcome). o.refused) is ∙ here.refused;
      output = ap (λ (o : RunOutcome). o.output) is ∙ ap (λ (m : Machine). text m.now) here.after;
    }

-- the same for a script that may not show its bytes
pub script_gives_where_known : (coming script_coming : Option (List ℕ)) (script : List ℕ) (depth skipped : ℕ)
    (c : Contents) (new : Machine) (count : ℕ) (before after : Option (List ℕ)) →
    IfSome coming (λ f. FileMeans SIGNAL_LIMIT f c skipped) → IfSome script_coming (λ s. script ≡ s)
    → RunsLines skipped (script_lines script) (initial_machine c depth) new count before after →
    IfSome script_coming (λ s. ScriptGives coming s depth count (Appends before after) new.now)
script_gives_where_known coming (Some s) script depth skipped c new count before after means is ran =
    script_gives coming s depth skipped c new count before after means (rw is at ran)
script_gives_where_known coming script_coming script depth skipped c new count before after means is ran = tt

-- what holds of the outcome of the script on the capture holds of what the run writes
for_run : (capture lines : DeviceEnd) (script : List ℕ) (depth skipped : ℕ) (c : Contents)
    (property : RunOutcome → Type 0) →
    IfSome capture.before (λ f. FileMeans SIGNAL_LIMIT f c skipped) → IfSome lines.before (λ s. script ≡ s)
    → property (outcome c skipped depth (script_lines script)) → ForRun depth capture lines property
for_run capture lines script depth skipped c property means is holds = IfSome_then lines.before is (λ s same. (
  c,
  skipped,
  outcome c skipped depth (script_lines s),
  refl,
  IfSome_then capture.before means (λ f so. run_is f s depth c skipped so),
  subst (λ (bytes : List ℕ). property (outcome c skipped depth (script_lines bytes))) same holds,
))

-- what follows from the replies, the output and the count of refused lines holds of what the run
-- writes
if_run_writes : (capture lines : DeviceEnd) (depth count : ℕ) (took_replies : List ℕ
    → Type 0) (now : Contents) (property : RunOutcome → Type 0) →
    IfSome lines.before (λ s. ScriptGives capture.before s depth count took_replies now) →
    ((written : RunOutcome) → took_replies (concat written.replies) → written.output ≡ text now
    → count ≡ written.refused → property written) → ForRun depth capture lines property
if_run_writes capture lines depth count took_replies now property ran follows =
    IfSome_then lines.before ran (λ s gives. (
      gives.contents,
      gives.skipped,
      outcome gives.contents gives.skipped depth (script_lines s),
      refl,
      IfSome_then capture.before gives.means (λ f so. run_is f s depth gives.contents gives.skipped so),
      follows _ gives.replies gives.output (sym gives.refused),
    ))

-- ---- ends before the output

-- a refused capture is refused for one fault
refused_once : (coming left : Option (List ℕ)) (has_failed : Bool) (e : ReadError)
    → IfSome coming (λ file. IsRefusal SIGNAL_LIMIT FILE_LIMIT file has_failed left e)
    → IfSome coming (λ file. IsRefusal SIGNAL_LIMIT FILE_LIMIT file has_failed left e
    × IsOnlyRefusal SIGNAL_LIMIT FILE_LIMIT file has_failed left e)
refused_once None left has_failed e refused = tt
refused_once (Some file) left has_failed e refused = (
  refused,
  one_refusal SIGNAL_LIMIT FILE_LIMIT file has_failed left e refused,
)

-- at a fault of the capture
pub capture_ends : (capture script : DeviceEnd) (e : ReadError)
    → IfSome capture.before (λ file. IsRefusal SIGNAL_LIMIT FILE_LIMIT file capture.has_failed capture.after e) →
    (e.fault ≡ faults.ReadFault → capture.has_failed ≡ true)
    → (e.fault ≡ faults.TooLarge → capture.has_failed ≡ false) → IsUntouched script
    → EndsBeforeReplies capture script (run_errors.Capture e)
unfolding RunEnds
capture_ends capture script e refused failed large unread depth replies untouched output kept =
    (refused_once capture.before capture.after capture.has_failed e refused, failed, large, unread, (untouched, kept))

-- at the script
pub script_ends : (capture script replies : DeviceEnd) (depth : ℕ) (e : RunError) → ScriptFails script e
    → IsAccepted capture → IsUntouched replies → EndsBeforeOutput depth capture script replies e
unfolding RunEnds
script_ends capture script replies depth run_errors.ScriptTooLarge fails accepted untouched output kept =
    (accepted, fails, (untouched, kept))
script_ends capture script replies depth run_errors.ScriptReadFault fails accepted untouched output kept =
    (accepted, fails, (untouched, kept))
script_ends capture script replies depth (run_errors.NoMemory zero) fails accepted untouched output kept =
    (accepted, (untouched, kept))
script_ends capture script replies depth (run_errors.NoMemory (suc n)) fails accepted untouched output kept =
    absurd fails
script_ends capture script replies depth (run_errors.Capture fault) fails accepted untouched output kept = absurd fails
script_ends capture script replies depth (run_errors.ReplyFault n) fails accepted untouched output kept = absurd fails
script_ends capture script replies depth (run_errors.Write fault) fails accepted untouched output kept = absurd fails

-- a script that was not read leaves the replies as they were
pub flushed_at_script : (script : DeviceEnd) (has_failed is_flushed : Bool) (e : RunError) → ScriptFails script e
    → IsFlushedAt has_failed is_flushed e
flushed_at_script script has_failed is_flushed (run_errors.NoMemory (suc n)) fails = absurd fails
flushed_at_script script has_failed is_flushed (run_errors.Write fault) fails = absurd fails
flushed_at_script script has_failed is_flushed e fails = tt

-- at the first session
pub session_ends : (capture script replies : DeviceEnd) (depth : ℕ) (e : RunError) → e ≡ run_errors.NoMemory 0
    → IsAccepted capture → IsUntouched replies → EndsBeforeOutput depth capture script replies e
unfolding RunEnds
session_ends capture script replies depth e none accepted untouched output kept = rw none (accepted, (untouched, kept))

-- in the lines
module _ (capture script replies : DeviceEnd) (bytes : List ℕ) (depth skipped : ℕ) (c : Contents)
    (accepted : IsAccepted capture) (script_read : IsRead SCRIPT_LIMIT script)
    (means : IfSome capture.before (λ f. FileMeans SIGNAL_LIMIT f c skipped))
    (is : IfSome script.before (λ s. bytes ≡ s)) (is_flushed : Bool) where
  -- given what was taken of the replies
  taken_end : (e : RunError) → HasFailedAt replies.has_failed is_flushed e
      → StopsInReplies (outcome c skipped depth (script_lines bytes)).replies (Appends replies.before replies.after) e
      → EndsBeforeOutput depth capture script replies e
  unfolding RunEnds
  taken_end (run_errors.NoMemory zero) failed stops output kept = absurd (omega (arith, stops.0))
  taken_end (run_errors.NoMemory (suc before)) failed stops output kept =
      let one_less : suc before - 1 ≡ before = omega arith in
      let took = subst (λ n. Appends replies.before replies.after
      (concat (take n (outcome c skipped depth (script_lines bytes)).replies))) one_less stops.2 in (
        accepted,
        script_read,
        kept,
        for_run capture script bytes depth skipped c _ means is (omega (arith, stops.1), took),
      )
  taken_end (run_errors.ReplyFault written) failed stops output kept = (
    accepted,
    script_read,
    failed,
    kept,
    for_run capture script bytes depth skipped c _ means is stops,
  )
  taken_end e failed stops output kept = absurd stops

  -- the same by the machine's replies
  pub lines_end : (e : RunError) → HasFailedAt replies.has_failed is_flushed e
      → StopsInLines skipped (script_lines bytes) (initial_machine c depth) replies.before replies.after e
      → EndsBeforeOutput depth capture script replies e
  lines_end e failed stops =
      taken_end e failed (subst (λ (texts : List (List ℕ)). StopsInReplies texts
      (Appends replies.before replies.after) e)
      (sym (ap (λ (o : RunOutcome). o.replies) (outcome_is c skipped depth (script_lines bytes)))) stops)

-- the replies were flushed where memory ran out at a line
pub flushed_at_line : (has_failed is_flushed : Bool) (e : RunError) → EndsAtLine e → HasFailedAt has_failed is_flushed e
    → IsFlushedAt has_failed is_flushed e
flushed_at_line has_failed is_flushed (run_errors.NoMemory (suc before)) ends failed = failed
flushed_at_line has_failed is_flushed (run_errors.Write fault) ends failed = absurd ends
flushed_at_line has_failed is_flushed e ends failed = tt

-- ---- the output

-- the run is completed, with an output or without
pub run_reaches_end : (capture script replies : DeviceEnd) (output : Option DeviceEnd) (depth : ℕ)
    (summary : Summary) (now : Contents) →
    IsAccepted capture → IsRead SCRIPT_LIMIT script → replies.has_failed ≡ false →
    IfSome script.before
    (λ s. ScriptGives capture.before s depth summary.refused (Appends replies.before replies.after) now) →
    IfSome output (λ out. (out.has_failed ≡ false) × HasText out (text now))
    → RunEnds depth capture script replies output (Ok summary)
unfolding RunEnds
run_reaches_end capture script replies output depth summary now accepted script_read ready ran wrote = (
  accepted,
  script_read,
  ready,
  IfSome_then output wrote (λ out is. is.0),
  if_run_writes capture script depth summary.refused _ now _ ran
      (λ written replied same refused. (replied, IfSome_then output wrote (λ out is. rw same is.1), refused)),
)

-- or stops at its output
pub run_stops_at_output : (capture script replies out : DeviceEnd) (depth count : ℕ) (now : Contents)
    (fault : WriteError) →
    IsAccepted capture → IsRead SCRIPT_LIMIT script → replies.has_failed ≡ false →
    IfSome script.before
    (λ s. ScriptGives capture.before s depth count (Appends replies.before replies.after) now) →
    TookBefore (text now) out.before out.after out.has_failed fault
    → RunEnds depth capture script replies (Some out) (Err (run_errors.Write fault))
unfolding RunEnds
run_stops_at_output capture script replies out depth count now write_errors.NoMemory accepted script_read ready ran
    took = (
      accepted,
      script_read,
      ready,
      took,
      if_run_writes capture script depth count _ now _ ran (λ written replied output refused. replied),
    )
run_stops_at_output capture script replies out depth count now (write_errors.WriteFault written) accepted script_read
    ready ran took = (
      accepted,
      script_read,
      ready,
      (
        took.1,
        if_run_writes capture script depth count _ now _ ran
            (λ outcome replied output refused. (replied, rw output (λ small. ((took.0 small).1, (took.0 small).0)))),
      ),
    )

-- ---- errors passed on

-- there is a writer, or none
pub given_or_none : {X : Type 0} (o : Option X) → (o ≡ None) ⊎ ((x : X) × (o ≡ Some x))
given_or_none None = inl refl
given_or_none (Some x) = inr (x, refl)

-- what holds of one error holds where it is passed on
pub at_error : {A E : Type 0} (r : Result A E) (error : E) (P : E → Type 0) → IsErrAnd r (λ e. e ≡ error) → P error
    → IfErr r P
at_error (Ok v) error P gives holds = tt
at_error (Err e) error P gives holds = rw gives holds

-- a run that an error ended
pub ends_with : (r : Result Summary RunError) (error : RunError) (depth : ℕ) (capture script : DeviceEnd)
    (replies : DeviceEnd) (output : Option DeviceEnd) →
    IsErrAnd r (λ e. e ≡ error) → RunEnds depth capture script replies output (Err error)
    → RunEnds depth capture script replies output r
ends_with (Ok summary) error depth capture script replies output gives ends = absurd gives
ends_with (Err e) error depth capture script replies output gives ends = rw gives ends

-- a run that an error ended before its output, with a writer for it that stays as it was
pub ends_with_writer : (r : Result Summary RunError) (error : RunError) (depth : ℕ)
    (capture script replies out : DeviceEnd) →
    IsErrAnd r (λ e. e ≡ error) → EndsBeforeOutput depth capture script replies error → IsUntouched out
    → RunEnds depth capture script replies (Some out) r
ends_with_writer r error depth capture script replies out gives ends kept =
    ends_with r error depth capture script replies (Some out) gives (ends (Some out) kept)
