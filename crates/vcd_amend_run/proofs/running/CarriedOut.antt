-- The script carried out: its replies, and the text that the run gives.
use Rattle.std.proofs.Common.{◌≡◌, ◌+◌, ℕ, List, [], ◌∷◌, Option, map}
use Rattle.std.proofs.Common.{refl, sym, subst, ap, ◌∙◌, Bool, true, false, Some, length}
use Rattle.std.specs.List.{concat, range_with_len}
use Rattle.std.specs.Io.KnownBytes.{Appends}
use Rattle.vcd_core.specs.declared.capture.TheConstants.{SIGNAL_LIMIT}
use Rattle.vcd_core.specs.Contents.{Contents, SignalContents}
use Rattle.vcd_text.specs.Grammar.{ParseState, VariableDeclaration}
use Rattle.vcd_text.specs.Meaning.{FileMeans}
use Rattle.vcd_edit.specs.declared.edit.Edit.{Edit}
use Rattle.vcd_journal.specs.Machine.{Machine, initial_machine}
use Rattle.vcd_journal.specs.History.{replay}
use Rattle.vcd_hollow.specs.Origins.{origins}
use Rattle.vcd_core.specs.SignalOrigins.{RiseWithin, ComeFrom}
use Rattle.vcd_hollow.proofs.shared.Origins.{origins_rise, signals_come_from_origins}
use Rattle.vcd_hollow.specs.Cuts.{cuts}
use Rattle.vcd_hollow.specs.Hollow.{hollow, emptied}
use Rattle.vcd_hollow.specs.OtherWaves.{signals_with_others}
use Rattle.vcd_script.specs.Script.{script_lines}
use Rattle.vcd_script.specs.Run.{RunOutcome, outcome}
use Rattle.vcd_script.specs.LineRunEnds.{RunsLines}
use Rattle.vcd_script.specs.SessionLines.{machine_after_lines}
use Rattle.vcd_hollow.specs.HollowRun.{last_edits}
use Rattle.vcd_hollow.proofs.shared.HollowRuns.{run_on_hollow}
use Rattle.vcd_script.proofs.shared.LinesAndHistory.{outcome_is, last_capture as last_machine}
use Rattle.vcd_copy.specs.Pieces.{Piece, state_of_pieces}
use Rattle.vcd_amend.specs.Amendment.{Amendment}
use Rattle.vcd_amend_run.specs.inside.CaptureAfterCuts.{capture_after_cuts}
use Rattle.vcd_amend.specs.declared.cut_ticks.CutTicks.{CutTicks}
use Rattle.vcd_amend.specs.KnownSignals.{IsAmendmentFor}
use Rattle.vcd_amend_run.specs.EditedText.{PiecesMean, edited_text, pieces_after_cuts}
use Rattle.vcd_amend_run.specs.AmendRun.{IsAmendRun}
use Rattle.vcd_amend_run.specs.declared.streamed_line.StreamedLine.{StreamedLine}
use Rattle.vcd_amend_run.specs.inside.Running.{IsLaterCapture, IsPlanned, IsEdited, RunsPlanned}
use Rattle.vcd_amend_run.proofs.streamed_lines.Plans.{planned_reads_own}
use Rattle.vcd_amend_run.proofs.laws.EditedFiles.{accepted_file_has_pieces, HaveStateBut}
use Rattle.vcd_amend_run.proofs.running.AmendedRun.{IsKnownAmendment, IsKnownForRun, cut_is_accepted}
use Rattle.vcd_amend_run.proofs.running.AmendedRun.{declared_after_cuts}
use Rattle.vcd_amend_run.proofs.running.CutsInForce.{cuts_are_replayed, hollow_after_cuts}

-- ---- the script carried out

-- from a plan whose lines were run
pub is_edited : (file lines script : List ℕ) (depth : ℕ) (writes : Bool) (declared : List VariableDeclaration)
    (skipped : ℕ) (first : Contents) (streamed : List StreamedLine) (ks : List ℕ) (cs : List CutTicks) (takes : Bool)
    (shown : Option (List ℕ)) (again_failed : Bool) (new : Machine) (refused : ℕ) (before after : Option (List ℕ))
    → IsPlanned file lines depth declared skipped first streamed ks cs takes × (script ≡ lines)
    → (writes ≡ true → takes ≡ false) → shown ≡ Some file
    → RunsPlanned shown again_failed skipped depth (script_lines script) streamed first new refused before after
    → IsEdited file lines depth writes (Appends before after) declared first ks cs new.now refused
is_edited file lines script depth writes declared skipped first streamed ks cs takes shown again_failed new refused
    before after planned free shows ran =
    let plan = planned.0 in
    let c : Contents = plan.whole in
    let all : List (List ℕ) = script_lines lines in
    let h : Contents = hollow plan.silent c in
    let here : RunsLines skipped all (initial_machine c depth) (machine_after_lines (initial_machine c depth) all)
    refused before after × (new ≡ machine_after_lines (initial_machine h depth) all) =
    subst (λ s. RunsPlanned shown again_failed skipped depth (script_lines s) streamed first new refused before after)
    planned.1 ran file depth c plan.silent shows (record {
      means = plan.means;
      session_is = ap (λ (d : Contents). initial_machine d depth) plan.hollow_is;
      planned = plan.planned;
    }) in
    let gives = here.0.2 in
    let is = outcome_is c skipped depth all in
    let replies : (outcome c skipped depth all).replies ≡ here.0.0 =
    ap (λ (o : RunOutcome). o.replies) is ∙ gives.replies in
    record {
      whole = c;
      skipped = skipped;
      silent = plan.silent;
      means = plan.means;
      same = run_on_hollow plan.silent c skipped depth all
          (planned_reads_own c skipped depth plan.silent all streamed plan.planned);
      hollow_is = plan.hollow_is;
      last_is = ap (λ (m : Machine). m.now) here.1 ∙ sym (last_machine h skipped depth all);
      origins_are = plan.origins_are;
      cuts_are = plan.cuts_are;
      free = λ asked. sym plan.names ∙ free asked;
      variables = plan.variables;
      replies = subst (λ (texts : List (List ℕ)). Appends before after (concat texts)) (sym replies) here.0.1;
      count = sym gives.refused ∙ sym (ap (λ (o : RunOutcome). o.refused) is);
    }

-- a capture of which no signal is silent
pub hollow_of_none : (c : Contents) → hollow (λ k. false) c ≡ c
hollow_of_none c = ap (λ (ss : List SignalContents). record c { signals = ss }) (all_own 0 c.signals)
  where
    all_own : (n : ℕ) (ss : List SignalContents)
        → signals_with_others (map (emptied (λ k. false)) (range_with_len n (length ss))) ss ≡ ss
    all_own n [] = refl
    all_own n (s ∷ ss) = ap (λ (rest : List SignalContents). s ∷ rest) (all_own (n + 1) ss)

-- the last capture comes from the first
pub comes_from : (first : Contents) (skipped depth : ℕ) (lines : List (List ℕ)) (ks : List ℕ) (new : Machine)
    → ks ≡ origins (length first.signals) (last_edits first skipped depth lines)
    → new ≡ machine_after_lines (initial_machine first depth) lines
    → IsLaterCapture first ks new.now
comes_from first skipped depth lines ks new placed ran =
    let es : List Edit = last_edits first skipped depth lines in
    let now : replay first es ≡ new.now =
    last_machine first skipped depth lines ∙ ap (λ (m : Machine). m.now) (sym ran) in
    record {
      rising = subst (RiseWithin 0 (length first.signals)) (sym placed) (origins_rise (length first.signals) es);
      come = subst (λ (os : List ℕ). ComeFrom first os new.now.signals) (sym placed)
          (subst (λ (c : Contents). ComeFrom first (origins (length first.signals) es) c.signals) now
          (signals_come_from_origins first es));
    }

-- ---- what is given

-- the run without an output: the file has pieces
pub is_run : (file lines : List ℕ) (depth : ℕ) (c : Contents) (skipped : ℕ) → FileMeans SIGNAL_LIMIT file c skipped
    → (written : RunOutcome) × IsAmendRun file lines depth written
    × (written.replies ≡ (outcome c skipped depth (script_lines lines)).replies)
    × (written.refused ≡ (outcome c skipped depth (script_lines lines)).refused)
is_run file lines depth c skipped means =
    let found = accepted_file_has_pieces file c skipped means in (
      record (outcome c skipped depth (script_lines lines)) {
        output = edited_text c skipped depth (script_lines lines) found.0 found.1;
      },
      record { contents = c; skipped = skipped; pieces = found.0; tail = found.1; means = found.2; run = refl },
      refl,
      refl,
    )

-- the amendment that is known from the captures is known for the run, also with a mark
pub known_for_run : (file lines : List ℕ) (depth : ℕ) (writes : Bool) (took : List ℕ → Type 0)
    (declared : List VariableDeclaration) (first : Contents) (ks : List ℕ) (cs : List CutTicks) (last : Contents)
    (refused : ℕ) (a : Amendment) (pieces marked : List Piece) (tail : List ℕ)
    (edited : IsEdited file lines depth writes took declared first ks cs last refused)
    → IsAmendmentFor declared (capture_after_cuts first cs).signals ks last.signals a
    → PiecesMean file pieces tail edited.whole edited.skipped
    → HaveStateBut (state_of_pieces SIGNAL_LIMIT pieces) marked tail
    → IsKnownForRun edited.silent edited.whole edited.skipped depth (script_lines lines) marked a
known_for_run file lines depth writes took declared first ks cs last refused a pieces marked tail edited is_for is but =
    let c : Contents = edited.whole in
    let all : List (List ℕ) = script_lines lines in
    let es : List Edit = last_edits c edited.skipped depth all in
    let s : ParseState = state_of_pieces SIGNAL_LIMIT pieces in
    let t : ParseState = state_of_pieces SIGNAL_LIMIT (pieces_after_cuts c edited.skipped depth all marked) in
    let variables : declared ≡ t.declared =
    edited.variables s (cut_is_accepted file pieces tail is.cut is.allowed is.in_body)
    ∙ sym (declared_after_cuts file pieces marked tail c edited.skipped depth all is but) in
    let firsts : capture_after_cuts first cs ≡ hollow edited.silent (replay c (cuts es)) =
    (λ i. capture_after_cuts (edited.hollow_is i) (edited.cuts_are i))
    ∙ cuts_are_replayed (hollow edited.silent c) es ∙ hollow_after_cuts edited.silent c es in
    subst (λ (d : Contents). IsKnownAmendment t (hollow edited.silent (replay c (cuts es))).signals
    (origins (length c.signals) es) d.signals a) edited.last_is
    (subst (λ (os : List ℕ). IsKnownAmendment t (hollow edited.silent (replay c (cuts es))).signals os last.signals a)
    edited.origins_are
    (subst (λ (d : Contents). IsKnownAmendment t d.signals ks last.signals a) firsts
    (λ whole knows. is_for t whole variables knows)))
