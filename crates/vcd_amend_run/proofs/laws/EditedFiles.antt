-- A file on which the edits of a run are made in place means the last capture.
use Rattle.std.proofs.Common.{◌≡◌, ℕ, Bool, List, [], ◌∷◌}
use Rattle.std.proofs.Common.{map, refl, ap, sym, subst, ◌∙◌, ◌++◌, arith, IsTrue, Option, Some}
use Rattle.std.specs.Prelude.{count_by, length, IfSome}
use Rattle.vcd_core.specs.declared.capture.TheConstants.{SIGNAL_LIMIT}
use Rattle.vcd_core.specs.Contents.{Contents}
use Rattle.vcd_core.specs.Sound.{IsSound}
use Rattle.vcd_core.specs.declared.capture.Header.{Header}
use Rattle.vcd_text.specs.Words.{words_of}
use Rattle.vcd_text.specs.Grammar.{ParseState, initial_state, state_after, AllowsAll, Accepts}
use Rattle.vcd_text.specs.Grammar.{is_skipped}
use Rattle.vcd_text.specs.Meaning.{meaning, FileMeans}
use Rattle.vcd_amend.specs.WhatStands.{ItemsStand}
use Rattle.vcd_copy.specs.Pieces.{Piece, IsCut, piece_bytes, state_of_pieces}
use Rattle.vcd_copy.specs.Marks.{CommentBytes, with_mark, IsMark, with_comment}
use Rattle.vcd_amend.specs.Retimed.{new_tick, retimed_signal, retimed_contents}
use Rattle.vcd_amend.specs.RetimedLaws.{is_in_cut, tick_before_cut, pieces_after, bytes_of, MeansRetimed}
use Rattle.vcd_amend.specs.RetimedLaws.{CanBeRetimed}
use Rattle.vcd_text.proofs.shared.SoundMeaning.{meaning_is_sound}
use Rattle.vcd_copy.proofs.pieces.Cuts.{file_is_cut}
use Rattle.vcd_amend.proofs.retimed.NoCut.{none, all_stay, pieces_stay}
use Rattle.vcd_amend.proofs.retimed.Ticks.{cuts_leave_ticks}
use Rattle.vcd_amend.proofs.retimed.Meaning.{state_is}
use Rattle.vcd_copy.proofs.shared.SpelledItems.{cut_spells_items}
use Rattle.vcd_copy.proofs.marks.MarkedFiles.{header_with, noted_in_body, cut_with_mark, allowed_with_mark}
use Rattle.vcd_copy.proofs.marks.MarkedFiles.{state_with_mark}
use Rattle.vcd_amend.proofs.retimed.Pieces.{retimed_is_meant}
use Rattle.vcd_edit.specs.declared.edit.Edit.{Edit}
use Rattle.vcd_edit.specs.declared.edit.Edit.TheVariants.{Cut}
use Rattle.vcd_edit.specs.Effect.{effect}
use Rattle.vcd_journal.specs.History.{replay}
use Rattle.vcd_hollow.specs.Cuts.{cuts, tick_before_cuts, CutsFit}
use Rattle.vcd_hollow.proofs.shared.Cuts.{cuts_are_one}
use Rattle.vcd_hollow.specs.HollowRun.{last_edits, last_capture}
use Rattle.vcd_amend_run.specs.AmendedRun.{IsAfterCuts}
use Rattle.vcd_amend_run.specs.EditedText.{is_cut_out_by, edited_text, CutsInForceLeaveTicks}
use Rattle.vcd_amend_run.specs.EditedText.{RetimedCaptureIsReplayOfCuts}
use Rattle.vcd_amend_run.specs.EditedText.{AcceptedFileHasPieces, PiecesMean, EditedTextMeansLastCapture}
use Rattle.vcd_amend_run.specs.MarkedRun.{MarkedTextMeansLastCapture}
use Rattle.vcd_amend_run.specs.EditedText.{remaining_of_run, pieces_after_cuts}
use Rattle.vcd_amend_run.specs.EditedText.{NoCutLeavesPieces}
use Rattle.vcd_amend_run.proofs.laws.AmendedRuns.{all_but_signals, amended_run_is_meant}
use Rattle.vcd_hollow.proofs.shared.FittingCuts.{cuts_of_run_fit}

-- ---- ticks

pub cuts_in_force_leave_ticks : CutsInForceLeaveTicks
unfolding is_cut_out_by tick_before_cuts CutsFit replay effect
cuts_in_force_leave_ticks c [] fit = (record { left = λ t. refl; same = all_stay }, refl, all_stay c.end)
cuts_in_force_leave_ticks c (Cut from to ∷ es) fit =
    let before = cuts_in_force_leave_ticks c es fit.2 in
    let one = cuts_leave_ticks.1 from to (replay c es).end (omega (arith, fit.0)) fit.1 in
    let first : ℕ → Bool = is_cut_out_by es in
    let later : ℕ → Bool = is_in_cut from to in (
      cuts_leave_ticks.3 first later (tick_before_cut from to) (tick_before_cuts es) before.0
          (cuts_leave_ticks.0 from to (omega (arith, fit.0))),
      rw (before.1, before.2) one.0,
      cuts_leave_ticks.2 first later c.end ∙ ap (new_tick later) before.2 ∙ one.1,
    )
cuts_in_force_leave_ticks c (e ∷ es) fit = cuts_in_force_leave_ticks c es fit

pub retimed_is_replay : RetimedCaptureIsReplayOfCuts
retimed_is_replay c es sound fit =
    ap (λ (n : ℕ). record c { end = n; signals = map (retimed_signal (tick_before_cuts es) n) c.signals })
    (cuts_in_force_leave_ticks c es fit).2
    ∙ sym (cuts_are_one c es sound fit)

-- ---- without a cut

none_cut_out : (es : List Edit) → cuts es ≡ [] → is_cut_out_by es ≡ none
unfolding is_cut_out_by cuts
none_cut_out [] no_cut = refl
none_cut_out (Cut from to ∷ es) no_cut = absurd (cc)
none_cut_out (e ∷ es) no_cut = none_cut_out es no_cut

pub no_cut_leaves_pieces : NoCutLeavesPieces
no_cut_leaves_pieces es limit pieces no_cut =
    ap (λ (f : ℕ → Bool). pieces_after f limit pieces) (none_cut_out es no_cut)
    ∙ pieces_stay (initial_state limit) pieces

-- ---- runs

pub accepted_file_has_pieces : AcceptedFileHasPieces
accepted_file_has_pieces file c skipped means =
    let accepted : Accepts SIGNAL_LIMIT (words_of file) means.state = means.accepted in
    let found = file_is_cut file accepted.items accepted.spelled in
    let state : means.state ≡ state_of_pieces SIGNAL_LIMIT found.0 =
    sym accepted.state_is ∙ sym (ap (state_after (initial_state SIGNAL_LIMIT)) found.3) in (
      found.0,
      found.1,
      record {
        cut = found.2;
        allowed = subst (AllowsAll (initial_state SIGNAL_LIMIT)) (sym found.3) accepted.allowed;
        in_body = subst (λ (s : ParseState). IsTrue s.in_body) state accepted.definitions_ended;
        means = means.means ∙ ap meaning state;
        left_out = means.left_out ∙ ap (λ (s : ParseState). count_by is_skipped s.declared) state;
      },
    )

-- pieces that are cut and accepted have this state, but for the header
pub record HaveStateBut (s : ParseState) (pieces : List Piece) (tail : List ℕ) : Type 0 where
  pub file : List ℕ
  pub header : List Header
  pub cut : IsCut file pieces tail
  pub allowed : AllowsAll (initial_state SIGNAL_LIMIT) (map (λ p. p.item) pieces)
  pub in_body : IsTrue (state_of_pieces SIGNAL_LIMIT pieces).in_body
  pub state_is : state_of_pieces SIGNAL_LIMIT pieces ≡ record s { header = header }

-- the pieces of a file, and these with a mark, if there is one
abbrev pub own_state : (file : List ℕ) (pieces : List Piece) (tail : List ℕ) (c : Contents) (skipped : ℕ)
    → PiecesMean file pieces tail c skipped → HaveStateBut (state_of_pieces SIGNAL_LIMIT pieces) pieces tail
own_state file pieces tail c skipped is = record {
  file = file;
  header = (state_of_pieces SIGNAL_LIMIT pieces).header;
  cut = is.cut;
  allowed = is.allowed;
  in_body = is.in_body;
  state_is = refl;
}

pub marked_state : (mark : Option CommentBytes) (file : List ℕ) (pieces : List Piece) (tail : List ℕ) (c : Contents)
    (skipped : ℕ) → IfSome mark IsMark → PiecesMean file pieces tail c skipped
    → HaveStateBut (state_of_pieces SIGNAL_LIMIT pieces) (with_mark mark pieces) tail
marked_state mark file pieces tail c skipped m is =
    let s : ParseState = state_of_pieces SIGNAL_LIMIT pieces in
    let same : state_of_pieces SIGNAL_LIMIT (with_mark mark pieces) ≡ record s { header = header_with mark s.header } =
    state_with_mark mark m SIGNAL_LIMIT file pieces tail is.cut is.allowed ∙ noted_in_body mark s is.in_body in
    record {
      file = piece_bytes (with_mark mark pieces) ++ tail;
      header = header_with mark s.header;
      cut = cut_with_mark mark m SIGNAL_LIMIT file pieces tail is.cut is.allowed;
      allowed = allowed_with_mark mark m SIGNAL_LIMIT file pieces tail is.cut is.allowed;
      in_body = subst (λ (t : ParseState). IsTrue t.in_body) (sym same) is.in_body;
      state_is = same;
    }

-- the capture that an accepted file means is sound
pub sound_pieces : (file : List ℕ) (pieces : List Piece) (tail : List ℕ) (c : Contents) (skipped : ℕ)
    → PiecesMean file pieces tail c skipped → IsSound (meaning (state_of_pieces SIGNAL_LIMIT pieces))
sound_pieces file pieces tail c skipped is =
    meaning_is_sound file (state_of_pieces SIGNAL_LIMIT pieces) (record {
      items = map (λ p. p.item) pieces;
      spelled = cut_spells_items file pieces tail is.cut;
      allowed = is.allowed;
      state_is = refl;
      definitions_ended = is.in_body;
    })

-- what the laws say of the text, where the last capture is changed in its header
abbrev IsMeant : (Contents → Contents) → List Piece → List ℕ → ℕ → List (List ℕ) → Contents → ℕ → Type 0
IsMeant changed pieces tail depth lines c skipped =
    FileMeans SIGNAL_LIMIT (edited_text c skipped depth lines pieces tail)
    (changed (last_capture c skipped depth lines)) skipped
    × ItemsStand SIGNAL_LIMIT (remaining_of_run c skipped depth lines) (last_capture c skipped depth lines).signals
    (pieces_after_cuts c skipped depth lines pieces) tail (edited_text c skipped depth lines pieces tail)

module _ (s : ParseState) (pieces : List Piece) (tail : List ℕ) (depth : ℕ) (lines : List (List ℕ))
    (sound : IsSound (meaning s)) (but : HaveStateBut s pieces tail) where
  abbrev skipped : ℕ
  skipped = count_by is_skipped s.declared

  abbrev es : List Edit
  es = last_edits (meaning s) skipped depth lines

  abbrev last : Contents
  last = last_capture (meaning s) skipped depth lines

  abbrev after : List Piece
  after = pieces_after (is_cut_out_by es) SIGNAL_LIMIT pieces

  fit : CutsFit (meaning s) es
  fit = cuts_of_run_fit (meaning s) skipped depth lines (length lines)

  pub can : CanBeRetimed (is_cut_out_by es) (tick_before_cuts es) SIGNAL_LIMIT but.file pieces tail
  can =
      let ticks = cuts_in_force_leave_ticks (meaning s) es fit in
      record {
        ticks = ticks.0;
        cut = but.cut;
        allowed = but.allowed;
        in_body = but.in_body;
        end = ap (λ (t : ParseState). is_cut_out_by es t.tick) but.state_is ∙ ticks.1;
      }

  pub retimed : MeansRetimed (is_cut_out_by es) (tick_before_cuts es) SIGNAL_LIMIT
      (state_of_pieces SIGNAL_LIMIT pieces) after tail
  retimed = retimed_is_meant (is_cut_out_by es) (tick_before_cuts es) SIGNAL_LIMIT but.file pieces tail can

  -- the file after the cuts has the variables of the file
  pub same_declared : (state_of_pieces SIGNAL_LIMIT after).declared ≡ s.declared
  same_declared = ap (λ (t : ParseState). t.declared)
      (state_is (is_cut_out_by es) (tick_before_cuts es) SIGNAL_LIMIT but.file pieces tail can)
      ∙ ap (λ (t : ParseState). t.declared) but.state_is

  after_is_meant : meaning (state_of_pieces SIGNAL_LIMIT after)
      ≡ record (replay (meaning s) (cuts es)) { header = but.header }
  after_is_meant = retimed.means
      ∙ ap (λ (t : ParseState). retimed_contents (is_cut_out_by es) (tick_before_cuts es) (meaning t)) but.state_is
      ∙ ap (λ (d : Contents). record d { header = but.header }) (retimed_is_replay (meaning s) es sound fit)

  own_header : (state_of_pieces SIGNAL_LIMIT after).header ≡ but.header
  own_header = ap (λ (d : Contents). d.header) after_is_meant

  pub is_after_cuts : IsAfterCuts s (state_of_pieces SIGNAL_LIMIT after) es
  is_after_cuts = record {
    means = after_is_meant
        ∙ ap (λ (hs : List Header). record (replay (meaning s) (cuts es)) { header = hs }) (sym own_header);
    left_out = retimed.left_out ∙ ap (λ (t : ParseState). count_by is_skipped t.declared) but.state_is;
  }

  state_is_meant : IsMeant (λ d. record d { header = but.header }) pieces tail depth lines (meaning s) skipped
  state_is_meant =
      let meant = amended_run_is_meant s depth lines (bytes_of after tail) after tail sound retimed.cut retimed.allowed
      retimed.in_body is_after_cuts in (
        subst (λ (hs : List Header). FileMeans SIGNAL_LIMIT (edited_text (meaning s) skipped depth lines pieces tail)
            (record last { header = hs }) skipped) own_header meant.0,
        meant.1,
      )

  -- edits change no header
  header_stays : last.header ≡ s.header
  header_stays = ap (λ (d : Contents). d.header) (all_but_signals (meaning s) es)
      ∙ ap (λ (d : Contents). d.header) (sym (retimed_is_replay (meaning s) es sound fit))

  with_header : (changed : List Header → List Header) → but.header ≡ changed s.header
      → IsMeant (λ d. record d { header = changed d.header }) pieces tail depth lines (meaning s) skipped
  with_header changed is = (
    subst (λ (hs : List Header). FileMeans SIGNAL_LIMIT (edited_text (meaning s) skipped depth lines pieces tail)
        (record last { header = hs }) skipped) (is ∙ ap changed (sym header_stays)) state_is_meant.0,
    state_is_meant.1,
  )

pub edited_text_is_meant : EditedTextMeansLastCapture
edited_text_is_meant file pieces tail c skipped depth lines is =
    let s : ParseState = state_of_pieces SIGNAL_LIMIT pieces in
    subst (λ (d : Contents). IsMeant (λ d. d) pieces tail depth lines d skipped) (sym is.means)
    (subst (IsMeant (λ d. d) pieces tail depth lines (meaning s)) (sym is.left_out)
    (with_header s pieces tail depth lines (sound_pieces file pieces tail c skipped is)
    (own_state file pieces tail c skipped is) (λ hs. hs) refl))

pub marked_text_is_meant : MarkedTextMeansLastCapture
unfolding marked_state
marked_text_is_meant file pieces tail c skipped depth lines mark m is =
    let s : ParseState = state_of_pieces SIGNAL_LIMIT pieces in
    let marked : List Piece = with_mark (Some mark) pieces in
    subst (λ (d : Contents). IsMeant (with_comment mark.words) marked tail depth lines d skipped) (sym is.means)
    (subst (IsMeant (with_comment mark.words) marked tail depth lines (meaning s)) (sym is.left_out)
    (with_header s marked tail depth lines (sound_pieces file pieces tail c skipped is)
    (marked_state (Some mark) file pieces tail c skipped m is) (header_with (Some mark)) refl))
