-- No variable of a code is named just if those that a run leaves have the same changes.
use Rattle.std.proofs.Common.{◌≡◌, ◌+◌, ◌≤◌, ◌⊎◌, ℕ, List, [], map, length, Option, sym, ap, subst}
use Rattle.std.proofs.Common.{arith, All}
use Rattle.std.specs.Prelude.{bytes_eq, count_by}
use Rattle.std.specs.List.{filter}
use Rattle.std.proofs.lemmas.List.{length-append}
use Rattle.vcd_core.specs.declared.capture.TheConstants.{SIGNAL_LIMIT}
use Rattle.vcd_core.specs.Contents.{Contents, SignalContents}
use Rattle.vcd_core.specs.Sound.{IsSound}
use Rattle.vcd_text.specs.Grammar.{ParseState, VariableDeclaration, initial_state, is_skipped}
use Rattle.vcd_text.specs.Grammar.{kept_variables}
use Rattle.vcd_text.specs.Meaning.{meaning}
use Rattle.vcd_copy.specs.Pieces.{Piece, state_of_pieces}
use Rattle.vcd_text.proofs.part.FewSignals.{same_limit}
use Rattle.vcd_edit.specs.declared.edit.Edit.{Edit}
use Rattle.vcd_hollow.specs.HollowRun.{last_edits, last_capture}
use Rattle.vcd_script.proofs.shared.LawsOfRun.{laws}
use Rattle.vcd_amend_run.specs.AmendedRun.{signals_remaining, signals_derived}
use Rattle.vcd_amend_run.specs.EditedText.{amendment_of_run, is_cut_out_by, remaining_of_run}
use Rattle.vcd_amend.specs.GivenCodes.{IsFileState, signals_left}
use Rattle.vcd_amend_run.specs.OutputRemarks.{NamedJustIfChangesDiffer, left_apart, left_of_code}
use Rattle.vcd_amend.specs.RetimedLaws.{pieces_after}
use Rattle.vcd_amend.proofs.given_codes.File.{state_of_file}
use Rattle.vcd_amend_run.proofs.laws.AmendedRuns.{remaining_are_of_variables, remaining_then_derived}
use Rattle.vcd_amend_run.proofs.laws.EditedFiles.{HaveStateBut, own_state, sound_pieces}
use Rattle.vcd_amend_run.proofs.laws.EditedFiles.{is_after_cuts, retimed, same_declared}
use Rattle.vcd_amend_run.proofs.remarks.ChangesLeft.{named_just_if_changes_differ}

-- for a capture with so many skipped variables
abbrev IsTold : (depth : ℕ) → (lines : List (List ℕ)) → (pieces : List Piece) → (code : List ℕ) → (c : Contents)
    → (skipped : ℕ) → List VariableDeclaration → Type 0
IsTold depth lines pieces code c skipped ds =
    let named : List VariableDeclaration = filter (λ d. bytes_eq code d.code)
    (left_apart (amendment_of_run c skipped depth lines pieces) ds) in
    let left : List (VariableDeclaration × SignalContents) =
    left_of_code code (kept_variables ds) (remaining_of_run c skipped depth lines) in
    let same : Type 0 = All (λ p. All (λ q. p.1.changes ≡ q.1.changes) left) left in
    ((named ≡ []) × same) ⊎ ((named ≡ map (λ p. p.0) left) × (same → ⊥))

module _ (pieces : List Piece) (tail : List ℕ) (depth : ℕ) (lines : List (List ℕ))
    (whole_sound : IsSound (meaning (state_of_pieces SIGNAL_LIMIT pieces)))
    (own : HaveStateBut (state_of_pieces SIGNAL_LIMIT pieces) pieces tail) where
  abbrev s : ParseState
  s = state_of_pieces SIGNAL_LIMIT pieces

  abbrev skipped : ℕ
  skipped = count_by is_skipped s.declared

  is_told : (code : List ℕ) → IsTold depth lines pieces code (meaning s) skipped s.declared
  is_told code =
      let c : Contents = meaning s in
      let es : List Edit = last_edits c skipped depth lines in
      let after : List Piece = pieces_after (is_cut_out_by es) SIGNAL_LIMIT pieces in
      let t : ParseState = state_of_pieces SIGNAL_LIMIT after in
      let last : Contents = last_capture c skipped depth lines in
      let remaining : List (Option SignalContents) = signals_remaining (length c.signals) es last in
      let derived : List SignalContents = signals_derived (length c.signals) es last in
      let cuts_made = is_after_cuts s pieces tail depth lines whole_sound own in
      let left = retimed s pieces tail depth lines whole_sound own in
      let sound : IsSound last = (laws c skipped depth lines whole_sound).sound (length lines) in
      let parts = remaining_are_of_variables s t es sound cuts_made in
      let few : length (signals_left remaining) + length derived ≤ t.limit =
      omega (
        arith,
        length-append (signals_left remaining) derived,
        ap (λ (ss : List SignalContents). length ss) (remaining_then_derived c es),
        sound.few,
        same_limit (initial_state SIGNAL_LIMIT) (map (λ (p : Piece). p.item) after),
      ) in
      let state : IsFileState t = state_of_file SIGNAL_LIMIT after left.allowed left.cut.spelled in
      subst (IsTold depth lines pieces code c skipped)
      (same_declared s pieces tail depth lines whole_sound own)
      (named_just_if_changes_differ t remaining derived state parts.0 parts.1 few code)

pub named_variables_differ : NamedJustIfChangesDiffer
named_variables_differ file pieces tail c skipped depth lines is code =
    let s : ParseState = state_of_pieces SIGNAL_LIMIT pieces in
    let Told : Contents → ℕ → Type 0 = λ d n. IsTold depth lines pieces code d n s.declared in
    subst (λ (d : Contents). Told d skipped) (sym is.means) (subst (Told (meaning s)) (sym is.left_out)
    (is_told pieces tail depth lines (sound_pieces file pieces tail c skipped is)
    (own_state file pieces tail c skipped is) code))
