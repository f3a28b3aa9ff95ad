-- A run on the hollow capture, and the amendment that it gives, make of a file its edited text.
use Rattle.std.proofs.Common.{◌≡◌, ℕ, suc, Bool, true, List, [], ◌∷◌, Option, refl, sym, ap, ap₂, subst, ◌∙◌, map}
use Rattle.std.proofs.Common.{length, drop}
use Rattle.std.specs.Prelude.{IsTrue, count_by, option_map}
use Rattle.std.specs.List.{range_with_len}
use Rattle.std.proofs.lemmas.List.{length-map}
use Rattle.vcd_core.specs.declared.capture.TheConstants.{SIGNAL_LIMIT}
use Rattle.vcd_core.specs.Contents.{Contents, SignalContents}
use Rattle.vcd_core.specs.Sound.{IsSound}
use Rattle.vcd_text.specs.Words.{words_of}
use Rattle.vcd_text.specs.Grammar.{ParseState, initial_state, kept_variables, is_skipped}
use Rattle.vcd_text.specs.Grammar.{AllowsAll, Accepts}
use Rattle.vcd_text.specs.Meaning.{declared_signal, meaning}
use Rattle.vcd_copy.specs.Pieces.{Piece, IsCut, state_of_pieces}
use Rattle.vcd_edit.specs.declared.edit.Edit.{Edit}
use Rattle.vcd_hollow.specs.OtherWaves.{OtherChanges, with_other, signals_with_others}
use Rattle.vcd_journal.specs.History.{replay}
use Rattle.vcd_hollow.specs.Origins.{origins}
use Rattle.vcd_hollow.specs.Cuts.{cuts}
use Rattle.vcd_hollow.specs.Hollow.{emptied, filled, hollow}
use Rattle.vcd_hollow.specs.HollowRun.{last_edits, last_capture, IsSameRun}
use Rattle.vcd_amend.specs.Amendment.{Amendment}
use Rattle.vcd_amend.specs.AmendedText.{amended_text}
use Rattle.vcd_amend.specs.GivenCodes.{amendment_for}
use Rattle.vcd_amend_run.specs.AmendedRun.{signals_remaining, signals_derived}
use Rattle.vcd_core.specs.SignalOrigins.{signal_from}
use Rattle.vcd_amend_run.specs.AmendedRun.{IsAfterCuts}
use Rattle.vcd_amend_run.specs.EditedText.{PiecesMean, edited_text, pieces_after_cuts, amendment_of_run}
use Rattle.vcd_amend.specs.KnownSignals.{KnowsSignals}
use Rattle.vcd_amend_run.proofs.laws.AmendedRuns.{remaining_by_hollow}
use Rattle.vcd_hollow.proofs.shared.Cuts.{count_after_cuts}
use Rattle.vcd_amend_run.proofs.laws.EditedFiles.{HaveStateBut, sound_pieces, is_after_cuts, same_declared}
use Rattle.vcd_copy.proofs.shared.SpelledItems.{cut_spells_items}
use Rattle.vcd_amend_run.proofs.running.KnownRun.{all_known}

as_many : (others : List OtherChanges) (ss : List SignalContents)
    → length (signals_with_others others ss) ≡ length ss
as_many [] ss = refl
as_many (o ∷ others) [] = refl
as_many (o ∷ others) (s ∷ ss) = ap suc (as_many others ss)

-- the amendment of a file with this state is that for whatever whole signals these hollow ones know
abbrev pub IsKnownAmendment : ParseState → (firsts : List SignalContents) → (ks : List ℕ)
    → (ss : List SignalContents) → Amendment → Type 0
IsKnownAmendment s firsts ks ss a =
    (whole : List (Option SignalContents))
    → KnowsSignals s (kept_variables s.declared) firsts
    (map (λ k. signal_from k ks ss) (range_with_len 0 (length firsts))) whole
    → a ≡ amendment_for s whole (drop (length ks) ss)

-- where the state `t` is that of the file after the cuts in force
module _ (s t : ParseState) (silent : ℕ → Bool) (skipped depth : ℕ) (lines : List (List ℕ)) (a : Amendment)
    (same : IsSameRun silent (meaning s) skipped depth lines)
    (after : IsAfterCuts s t (last_edits (meaning s) skipped depth lines)) where
  abbrev c : Contents
  c = meaning s

  abbrev es : List Edit
  es = last_edits c skipped depth lines

  abbrev d : Contents
  d = meaning t

  abbrev ks : List ℕ
  ks = origins (length c.signals) es

  abbrev h : Contents
  h = hollow silent d

  abbrev ss : List SignalContents
  ss = (last_capture (hollow silent c) skipped depth lines).signals

  count : length d.signals ≡ length c.signals
  count = ap (λ (e : Contents). length e.signals) after.means ∙ count_after_cuts c es

  -- the kept variables are as many as the signals
  kept_count : length (kept_variables t.declared) ≡ length d.signals
  kept_count = sym (length-map (kept_variables t.declared) (declared_signal t.value_changes t.tick))

  hollow_count : length h.signals ≡ length d.signals
  hollow_count = as_many (map (emptied silent) (range_with_len 0 (length d.signals))) d.signals

  known : KnowsSignals t (kept_variables t.declared) h.signals
      (map (λ k. signal_from k ks ss) (range_with_len 0 (length h.signals)))
      (map (λ k. option_map (with_other (filled silent d k)) (signal_from k ks ss))
      (range_with_len 0 (length d.signals)))
  known =
      let Known : (m n : ℕ) → Type 0 = λ m n. KnowsSignals t (kept_variables t.declared)
      (signals_with_others (map (emptied silent) (range_with_len 0 n)) d.signals)
      (map (λ k. signal_from k ks ss) (range_with_len 0 m))
      (map (λ k. option_map (with_other (filled silent d k)) (signal_from k ks ss)) (range_with_len 0 n)) in
      subst (λ m. Known m (length d.signals)) (sym hollow_count)
      (subst (λ n. Known n n) kept_count
      (all_known t silent ks ss (last_capture c skipped depth lines).signals
      (ap (λ (e : Contents). e.signals) same.hollow_capture) [] (kept_variables t.declared) refl))

  pub amendment_is_for_run : IsKnownAmendment t (hollow silent (replay c (cuts es))).signals ks ss a
      → a ≡ amendment_for t (signals_remaining (length c.signals) es (last_capture c skipped depth lines))
      (signals_derived (length c.signals) es (last_capture c skipped depth lines))
  amendment_is_for_run is_known =
      let by_hollow = remaining_by_hollow silent c skipped depth lines same in
      let left : Contents → ℕ → List (Option SignalContents) = λ e n.
      map (λ k. option_map (with_other (filled silent e k)) (signal_from k ks ss)) (range_with_len 0 n) in
      let whole : signals_remaining (length c.signals) es (last_capture c skipped depth lines)
      ≡ left d (length d.signals) =
      by_hollow.0 ∙ (λ i. left (sym after.means i) (sym count i)) in
      let here : IsKnownAmendment t h.signals ks ss a =
      subst (λ (e : Contents). IsKnownAmendment t (hollow silent e).signals ks ss a) (sym after.means) is_known in
      here _ known ∙ ap₂ (amendment_for t) (sym whole) (sym by_hollow.1)

-- a file that is cut into accepted pieces is accepted
pub cut_is_accepted : (file : List ℕ) (pieces : List Piece) (tail : List ℕ) → IsCut file pieces tail
    → AllowsAll (initial_state SIGNAL_LIMIT) (map (λ p. p.item) pieces)
    → IsTrue (state_of_pieces SIGNAL_LIMIT pieces).in_body
    → Accepts SIGNAL_LIMIT (words_of file) (state_of_pieces SIGNAL_LIMIT pieces)
cut_is_accepted file pieces tail cut allowed in_body = record {
  items = map (λ p. p.item) pieces;
  spelled = cut_spells_items file pieces tail cut;
  allowed = allowed;
  state_is = refl;
  definitions_ended = in_body;
}

-- the amendment of the file after the cuts in force, known from the hollow captures, is that of the run
abbrev pub IsKnownForRun : (silent : ℕ → Bool) → Contents → (skipped depth : ℕ) → (lines : List (List ℕ))
    → List Piece → Amendment → Type 0
IsKnownForRun silent c skipped depth lines pieces a =
    IsKnownAmendment (state_of_pieces SIGNAL_LIMIT (pieces_after_cuts c skipped depth lines pieces))
    (hollow silent (replay c (cuts (last_edits c skipped depth lines)))).signals
    (origins (length c.signals) (last_edits c skipped depth lines))
    (last_capture (hollow silent c) skipped depth lines).signals a

-- where these pieces of a file have a mark, or none
module _ (file : List ℕ) (pieces marked : List Piece) (tail : List ℕ) (c : Contents) (skipped depth : ℕ)
    (lines : List (List ℕ)) (is : PiecesMean file pieces tail c skipped)
    (but : HaveStateBut (state_of_pieces SIGNAL_LIMIT pieces) marked tail) where
  abbrev state : ParseState
  state = state_of_pieces SIGNAL_LIMIT pieces

  abbrev sound : IsSound (meaning state)
  sound = sound_pieces file pieces tail c skipped is

  -- the amendment is that of the run
  pub known_is_of_run : (silent : ℕ → Bool) (a : Amendment) → IsSameRun silent c skipped depth lines
      → IsKnownForRun silent c skipped depth lines marked a → a ≡ amendment_of_run c skipped depth lines marked
  known_is_of_run silent a =
      let count : ℕ = count_by is_skipped state.declared in
      let IsForRun : Contents → ℕ → Type 0 = λ d n. IsSameRun silent d n depth lines
      → IsKnownForRun silent d n depth lines marked a → a ≡ amendment_of_run d n depth lines marked in
      let here : IsForRun (meaning state) count = λ heard known.
      amendment_is_for_run state
      (state_of_pieces SIGNAL_LIMIT (pieces_after_cuts (meaning state) count depth lines marked)) silent count depth
      lines a heard (is_after_cuts state marked tail depth lines sound but) known in
      subst (λ (d : Contents). IsForRun d skipped) (sym is.means)
      (subst (IsForRun (meaning state)) (sym is.left_out) here)

  -- and the amended file is the edited one
  pub amended_text_is_edited : (silent : ℕ → Bool) (a : Amendment)
      → IsSameRun silent c skipped depth lines → IsKnownForRun silent c skipped depth lines marked a
      → amended_text a true (initial_state SIGNAL_LIMIT) (pieces_after_cuts c skipped depth lines marked) tail
      ≡ edited_text c skipped depth lines marked tail
  amended_text_is_edited silent a asked is_known =
      ap (λ (b : Amendment). amended_text b true (initial_state SIGNAL_LIMIT)
      (pieces_after_cuts c skipped depth lines marked) tail) (known_is_of_run silent a asked is_known)

  -- the file after the cuts in force has the variables of the file
  pub declared_after_cuts :
      (state_of_pieces SIGNAL_LIMIT (pieces_after_cuts c skipped depth lines marked)).declared ≡ state.declared
  declared_after_cuts =
      let AreSame : Contents → ℕ → Type 0 = λ d n.
      (state_of_pieces SIGNAL_LIMIT (pieces_after_cuts d n depth lines marked)).declared ≡ state.declared in
      subst (λ (d : Contents). AreSame d skipped) (sym is.means) (subst (AreSame (meaning state)) (sym is.left_out)
      (same_declared state marked tail depth lines sound but))
