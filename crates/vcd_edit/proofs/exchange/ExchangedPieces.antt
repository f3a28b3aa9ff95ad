-- Pieces put into a capture, one or one after another, and the pieces that undo them.
use Rattle.std.proofs.Common.{◌≡◌, ◌≢◌, refl, suc, ℕ, ◌<◌, List, ◌∷◌, ◌++◌, length, take, drop, map, get_or, set}
use Rattle.std.proofs.Common.{slice_index_or, sym, ap, subst, ◌∙◌, inl, inr, arith, ◌≤◌, [], All, ◌+◌, ◌^◌, ℤ, pos}
use Rattle.std.proofs.Common.{◌+ℤ◌, neg_ℤ, slice_range, ◌⊎◌}
use Rattle.std.specs.List.{insert, remove}
use Rattle.std.proofs.lemmas.Bool.{cases_eq}
use Rattle.std.proofs.lemmas.List.{map-set, get_or-map, get_or-set_same, get_or-set_other, set-get_or, length-map}
use Rattle.std.proofs.lemmas.List.{map-append, take-map, drop-map, length-set, set-set, set_comm}
use Rattle.std.proofs.lemmas.List.Elements.{All-nil, All-cons, All-head, All-drop, All-weaker}
use Rattle.std.specs.Int.{w64, FitsUnsigned}
use Rattle.std.proofs.lemmas.List.Edits.{length-between}
use Rattle.std.proofs.lemmas.Int.{ints}
use Rattle.vcd_core.specs.declared.wave.Change.{Change}
use Rattle.vcd_core.specs.declared.capture.Signal.{Signal}
use Rattle.vcd_core.specs.declared.capture.Capture.{Capture}
use Rattle.vcd_core.specs.WaveView.{WaveView}
use Rattle.vcd_core.specs.Contents.{SignalContents, no_signal, Contents, signal_at}
use Rattle.vcd_core.specs.CaptureContents.{signal_contents, contents}
use Rattle.vcd_core.specs.Splice.{AllTicksFit, moved_change, TickFits, spliced_changes}
use Rattle.vcd_core.specs.declared.capture.TheConstants.{END_LIMIT}
use Rattle.vcd_core.proofs.shared.Splices.{later_of-spliced, spliced_back, back_within, back_fits}
use Rattle.vcd_edit.specs.RecordView.{PieceView}
use Rattle.vcd_edit.specs.Effect.{renamed_signal}
use Rattle.vcd_edit.specs.AppliedRecords.{signal_with_changes, changes_with_piece, with_piece, with_pieces, PieceFits}
use Rattle.vcd_edit.specs.AppliedRecords.{RiseFrom}
use Rattle.vcd_edit.specs.inside.exchange.Pieces.{no_wave, wave_at, HasNoLessRoom, PieceReady, IsOppositePiece}
use Rattle.vcd_edit.specs.inside.exchange.Pieces.{PieceReadyIn, AreOppositePieces}
use Rattle.vcd_edit.specs.inside.exchange.Trimming.{IsTrimmed}

-- ==== what a capture holds after a piece was put into one of its waves

-- the contents of the signal at a position
pub contents_at : (signals : List Signal) (k : ℕ) (s : Signal) → k < length signals → s ≡ get_or signals k s
    → slice_index_or (map signal_contents signals) k no_signal ≡ signal_contents s
contents_at signals k s within is = get_or-map signal_contents signals k s no_signal within
    ∙ ap signal_contents (sym is)

-- its changes are replaced
pub changes_written : (signals : List Signal) (k : ℕ) (s : Signal) (w : WaveView) (cs : List Change)
    → k < length signals → s ≡ get_or signals k s → w.width ≡ s.wave.width → w.changes ≡ cs
    → map signal_contents (set signals k (record s { wave = w }))
    ≡ set (map signal_contents signals) k
    (signal_with_changes (slice_index_or (map signal_contents signals) k no_signal) cs)
changes_written signals k s w cs within is width changes =
    map-set signal_contents signals k (record s { wave = w })
    ∙ ap (set (map signal_contents signals) k)
    (λ i. record {
      scopes = (sym (contents_at signals k s within is) i).scopes;
      kind = (sym (contents_at signals k s within is) i).kind;
      words = (sym (contents_at signals k s within is) i).words;
      width = (width ∙ ap (λ (t : SignalContents). t.width) (sym (contents_at signals k s within is))) i;
      changes = changes i;
    })

-- the waves elsewhere stay
pub other_waves : (signals : List Signal) (k j : ℕ) (s : Signal) → j ≢ k
    → wave_at (set signals k s) j ≡ wave_at signals j
other_waves signals k j s other =
    ap (λ l. get_or l j no_wave) (map-set (λ (t : Signal). t.wave) signals k s)
    ∙ get_or-set_other (map (λ (t : Signal). t.wave) signals) k j s.wave no_wave other

-- a piece is put into the wave of its signal
pub piece_put : (c : Capture) (s : Signal) (w : WaveView) (p : PieceView) → p.signal < length c.signals
    → s ≡ get_or c.signals p.signal s → w.width ≡ s.wave.width → w.changes ≡ changes_with_piece p s.wave.changes
    → contents (record c { signals = set c.signals p.signal (record s { wave = w }) }) ≡ with_piece (contents c) p
piece_put c s w p within is width changes =
    ap (λ ss. record (contents c) { signals = ss })
    (changes_written c.signals p.signal s w _ within is width
    (changes ∙ ap (λ (t : SignalContents). changes_with_piece p t.changes)
    (sym (contents_at c.signals p.signal s within is))))

-- if only room changes, the contents stay
pub contents_kept : (c : Capture) (k : ℕ) (s : Signal) (w : WaveView) → k < length c.signals
    → s ≡ get_or c.signals k s → HasNoLessRoom s.wave w
    → contents (record c { signals = set c.signals k (record s { wave = w }) }) ≡ contents c
contents_kept c k s w within is kept =
    let at = contents_at c.signals k s within is in
    ap (λ ss. record (contents c) { signals = ss })
    (changes_written c.signals k s w s.wave.changes within is kept.width kept.changes
    ∙ ap (λ cs. set (map signal_contents c.signals) k
    (signal_with_changes (slice_index_or (map signal_contents c.signals) k no_signal) cs))
    (ap (λ (t : SignalContents). t.changes) (sym at)) ∙ set-get_or (map signal_contents c.signals) k no_signal)

pub wave_there : (signals : List Signal) (k : ℕ) (s : Signal) (w : WaveView) → k < length signals
    → wave_at (set signals k (record s { wave = w })) k ≡ w
wave_there signals k s w within =
    ap (λ l. get_or l k no_wave) (map-set (λ (t : Signal). t.wave) signals k (record s { wave = w }))
    ∙ get_or-set_same (map (λ (t : Signal). t.wave) signals) k w no_wave
    (omega (arith, length-map signals (λ (t : Signal). t.wave), within))

-- the wave at a position is that of the signal there
pub wave_is_there : (signals : List Signal) (k : ℕ) (s : Signal) → k < length signals → s ≡ get_or signals k s
    → wave_at signals k ≡ s.wave
wave_is_there signals k s within is = get_or-map (λ (t : Signal). t.wave) signals k s no_wave within
    ∙ ap (λ (t : Signal). t.wave) (sym is)

-- if one wave has no less room, none has
pub rooms_grow : (signals : List Signal) (k : ℕ) (s : Signal) (w : WaveView) → k < length signals
    → s ≡ get_or signals k s → HasNoLessRoom s.wave w
    → (j : ℕ) → HasNoLessRoom (wave_at signals j) (wave_at (set signals k (record s { wave = w })) j)
rooms_grow signals k s w within is more j =
    elim (cases_eq j k) [
      | inl here ↦ subst (λ n. HasNoLessRoom (wave_at signals n) (wave_at (set signals k (record s { wave = w })) n))
          (sym here)
          (subst (λ v. HasNoLessRoom v (wave_at (set signals k (record s { wave = w })) k))
          (sym (wave_is_there signals k s within is))
          (subst (HasNoLessRoom s.wave) (sym (wave_there signals k s w within)) more))
      | inr other ↦ subst (HasNoLessRoom (wave_at signals j))
          (sym (other_waves signals k j (record s { wave = w }) other))
          (record { width = refl; changes = refl; own = λ own. (own, omega arith) })
    ]

-- ---- a word, and a signal put in or taken out

pub word_written : (signals : List Signal) (k : ℕ) (s : Signal) (word : List ℕ) (words : List (List ℕ))
    → k < length signals → s ≡ get_or signals k s → words ≡ word ∷ drop 1 s.words
    → map signal_contents (set signals k (record s { words = words }))
    ≡ set (map signal_contents signals) k
    (renamed_signal word (slice_index_or (map signal_contents signals) k no_signal))
word_written signals k s word words within is written =
    map-set signal_contents signals k (record s { words = words })
    ∙ rw (contents_at signals k s within is, written) refl

pub signal_put : (signals : List Signal) (k : ℕ) (s : Signal)
    → map signal_contents (insert signals k s) ≡ insert (map signal_contents signals) k (signal_contents s)
signal_put signals k s =
    map-append signal_contents (take k signals) (s ∷ drop k signals)
    ∙ (λ i. sym (take-map signal_contents k signals) i ++ signal_contents s ∷ sym (drop-map signal_contents k signals)
    i)

pub signal_taken : (signals : List Signal) (k : ℕ)
    → map signal_contents (remove signals k) ≡ remove (map signal_contents signals) k
signal_taken signals k =
    map-append signal_contents (take k signals) (drop (suc k) signals)
    ∙ (λ i. sym (take-map signal_contents k signals) i ++ sym (drop-map signal_contents (suc k) signals) i)

-- ==== pieces put into a capture one after another, and the pieces that undo them

-- ---- one piece

-- the signal of the piece
pub signal_here : (c : Contents) (p : PieceView) → p.signal < length c.signals → signal_at (with_piece c p) p.signal
    ≡ signal_with_changes (signal_at c p.signal) (changes_with_piece p (signal_at c p.signal).changes)
signal_here c p within =
    get_or-set_same c.signals p.signal
    (signal_with_changes (signal_at c p.signal) (changes_with_piece p (signal_at c p.signal).changes)) no_signal within

-- another signal
pub signal_elsewhere : (c : Contents) (p : PieceView) (k : ℕ) → k ≢ p.signal
    → signal_at (with_piece c p) k ≡ signal_at c k
signal_elsewhere c p k other =
    get_or-set_other c.signals p.signal k
    (signal_with_changes (signal_at c p.signal) (changes_with_piece p (signal_at c p.signal).changes)) no_signal other

pub count_kept : (c : Contents) (p : PieceView) → length (with_piece c p).signals ≡ length c.signals
count_kept c p = length-set c.signals p.signal
    (signal_with_changes (signal_at c p.signal) (changes_with_piece p (signal_at c p.signal).changes))

-- a piece for another signal is as ready as before
pub ready_after : (c : Contents) (p q : PieceView) → q.signal ≢ p.signal → PieceReadyIn c q
    → PieceReadyIn (with_piece c p) q
ready_after c p q other ready =
    record {
      signal = omega (arith, count_kept c p, ready.signal);
      ready = subst (λ (s : SignalContents). PieceReady s.width s.changes q) (sym (signal_elsewhere c p q.signal other))
          ready.ready;
    }

-- a piece fits by what its signal is
pub fits_there : (c : Contents) (p : PieceView) (s : SignalContents) → p.signal < length c.signals
    → signal_at c p.signal ≡ s → p.from ≤ p.to → p.to ≤ length s.changes → AllTicksFit p.by (drop p.to s.changes)
    → PieceFits c p
fits_there c p s inside there ordered within ticks = record {
  signal = inside;
  ordered = ordered;
  within = subst (λ (s : SignalContents). p.to ≤ length s.changes) (sym there) within;
  ticks = subst (λ (s : SignalContents). AllTicksFit p.by (drop p.to s.changes)) (sym there) ticks;
}

-- the opposite piece undoes the first
module _ (c : Contents) (p q : PieceView) (within : p.signal < length c.signals)
    (leads : IsOppositePiece (signal_at c p.signal).changes p q) where
  changes_here : (signal_at (with_piece c p) q.signal).changes ≡ changes_with_piece p (signal_at c p.signal).changes
  changes_here = ap (λ k. (signal_at (with_piece c p) k).changes) leads.signal
      ∙ ap (λ (s : SignalContents). s.changes) (signal_here c p within)

  pub back_one : with_piece (with_piece c p) q ≡ c
  back_one =
      let old = signal_at c p.signal in
      let new = signal_with_changes old (changes_with_piece p old.changes) in
      let put_back : signal_with_changes (signal_at (with_piece c p) q.signal)
      (changes_with_piece q (signal_at (with_piece c p) q.signal).changes) ≡ old =
      (λ i. signal_with_changes (signal_at (with_piece c p) (leads.signal i)) (changes_with_piece q (changes_here i)))
      ∙ (λ i. signal_with_changes (signal_here c p within i) (leads.back i)) in
      let signals : set (set c.signals p.signal new) q.signal
      (signal_with_changes (signal_at (with_piece c p) q.signal)
      (changes_with_piece q (signal_at (with_piece c p) q.signal).changes)) ≡ c.signals =
      (λ i. set (set c.signals p.signal new) (leads.signal i) (put_back i)) ∙ set-set c.signals p.signal new old
      ∙ set-get_or c.signals p.signal no_signal in
      λ i. record { header = c.header; timescale = c.timescale; end = c.end; signals = signals i }

-- ---- pieces one after another

pub with_pieces-push : (c : Contents) (ps : List PieceView) (p : PieceView)
    → with_pieces c (ps ++ p ∷ []) ≡ with_piece (with_pieces c ps) p
unfolding with_pieces
with_pieces-push c [] p = refl
with_pieces-push c (q ∷ ps) p = with_pieces-push (with_piece c q) ps p

pub counts_kept : (c : Contents) (ps : List PieceView) → length (with_pieces c ps).signals ≡ length c.signals
unfolding with_pieces
counts_kept c [] = refl
counts_kept c (p ∷ ps) = counts_kept (with_piece c p) ps ∙ count_kept c p

-- a signal before those of the pieces stays
pub signal_kept : (c : Contents) (ps : List PieceView) (k j : ℕ) → k < j → RiseFrom j ps
    → signal_at (with_pieces c ps) k ≡ signal_at c k
unfolding with_pieces
signal_kept c [] k j less rise = refl
signal_kept c (p ∷ ps) k j less (from, rise) =
    signal_kept (with_piece c p) ps k (suc p.signal) (omega (arith, less, from)) rise
    ∙ signal_elsewhere c p k (λ same. absurd (omega (arith, less, from, same)))

pub AreOppositePieces-push : (c : Contents) (ps qs : List PieceView) (p q : PieceView) → AreOppositePieces c ps qs
    → p.signal < length (with_pieces c ps).signals → IsOppositePiece (signal_at (with_pieces c ps) p.signal).changes p q
    → AreOppositePieces c (ps ++ p ∷ []) (qs ++ q ∷ [])
unfolding with_pieces
AreOppositePieces-push c [] [] p q lead within leads = (within, leads, tt)
AreOppositePieces-push c (x ∷ ps) (y ∷ qs) p q (first, one, lead) within leads =
    (first, one, AreOppositePieces-push (with_piece c x) ps qs p q lead within leads)
AreOppositePieces-push c ps qs p q lead within leads = absurd lead

-- ---- pieces for several signals

pub all_from : (j : ℕ) (ps : List PieceView) → RiseFrom j ps → All (λ p. j ≤ p.signal) ps
all_from j [] rise = All-nil (λ p. j ≤ p.signal)
all_from j (p ∷ ps) (from, rise) =
    All-cons (λ p. j ≤ p.signal) p ps from (λ k d less. omega (arith, from, all_from (suc p.signal) ps rise k d less))

pub rise_back : (c : Contents) (ps qs : List PieceView) (j : ℕ) → AreOppositePieces c ps qs → RiseFrom j ps
    → RiseFrom j qs
rise_back c [] [] j lead rise = tt
rise_back c (p ∷ ps) (q ∷ qs) j (within, leads, lead) (from, rise) = (
  omega (arith, from, leads.signal),
  subst (λ k. RiseFrom (suc k) qs) (sym leads.signal) (rise_back (with_piece c p) ps qs (suc p.signal) lead rise),
)
rise_back c ps qs j lead rise = absurd lead

-- pieces for two signals, in either order
either_first : (c : Contents) (p q : PieceView) → p.signal ≢ q.signal
    → with_piece (with_piece c p) q ≡ with_piece (with_piece c q) p
either_first c p q other =
    let new_p = signal_with_changes (signal_at c p.signal) (changes_with_piece p (signal_at c p.signal).changes) in
    let new_q = signal_with_changes (signal_at c q.signal) (changes_with_piece q (signal_at c q.signal).changes) in
    let signals : (with_piece (with_piece c p) q).signals ≡ (with_piece (with_piece c q) p).signals =
    ap (λ (s : SignalContents). set (set c.signals p.signal new_p) q.signal
    (signal_with_changes s (changes_with_piece q s.changes))) (signal_elsewhere c p q.signal (λ same. other (sym same)))
    ∙ set_comm c.signals p.signal q.signal new_p new_q other
    ∙ sym (ap (λ (s : SignalContents). set (set c.signals q.signal new_q) p.signal
    (signal_with_changes s (changes_with_piece p s.changes))) (signal_elsewhere c q p.signal other)) in
    λ i. record { header = c.header; timescale = c.timescale; end = c.end; signals = signals i }

-- a piece before or after pieces for later signals
pub before_all : (c : Contents) (q : PieceView) (ps : List PieceView) (j : ℕ) → q.signal < j → RiseFrom j ps
    → with_piece (with_pieces c ps) q ≡ with_pieces (with_piece c q) ps
unfolding with_pieces
before_all c q [] j less rise = refl
before_all c q (p ∷ ps) j less (from, rise) =
    before_all (with_piece c p) q ps (suc p.signal) (omega (arith, less, from)) rise
    ∙ ap (λ d. with_pieces d ps) (either_first c p q (λ same. absurd (omega (arith, less, from, same))))

-- all opposite pieces
pub all_back : (c : Contents) (ps qs : List PieceView) (j : ℕ) → RiseFrom j ps → AreOppositePieces c ps qs
    → with_pieces (with_pieces c ps) qs ≡ c
unfolding with_pieces
all_back c [] [] j rise lead = refl
all_back c (p ∷ ps) (q ∷ qs) j (from, rise) (within, leads, lead) =
    sym (before_all (with_pieces (with_piece c p) ps) q qs (suc p.signal) (omega (arith, leads.signal))
    (rise_back (with_piece c p) ps qs (suc p.signal) lead rise))
    ∙ ap (λ d. with_piece d q) (all_back (with_piece c p) ps qs (suc p.signal) rise lead) ∙ back_one c p q within leads
all_back c ps qs j rise lead = absurd lead

-- ---- the opposite pieces fit

pub back_fits_all : (c : Contents) (ps qs : List PieceView) (j : ℕ) → RiseFrom j ps → AreOppositePieces c ps qs
    → All (PieceFits (with_pieces c ps)) qs
unfolding with_pieces
back_fits_all c [] [] j rise lead = All-nil (PieceFits c)
back_fits_all c (p ∷ ps) (q ∷ qs) j (from, rise) (within, leads, lead) =
    let next = with_piece c p in
    let here = fits_there (with_pieces next ps) q _
    (omega (arith, within, leads.signal, counts_kept next ps, count_kept c p))
    (ap (signal_at (with_pieces next ps)) leads.signal
    ∙ signal_kept next ps p.signal (suc p.signal) (omega arith) rise ∙ signal_here c p within)
    leads.ordered leads.within leads.ticks in
    All-cons (PieceFits (with_pieces next ps)) q qs here (back_fits_all next ps qs (suc p.signal) rise lead)
back_fits_all c ps qs j rise lead = absurd lead

-- ==== a trimmed piece was exchanged with its range: the piece undoes this

-- the later changes move back, or there are none
module _ (cs piece : List Change) (a z : ℕ) (by back : ℤ) (ordered : a ≤ z) (within : z ≤ length cs)
    (fit : AllTicksFit by (drop z cs)) (upto : All (λ c. c.tick ≤ END_LIMIT) cs) where
  none_or_back : ((tick : ℕ) → tick ≤ END_LIMIT → FitsUnsigned w64 (pos tick +ℤ by) → by +ℤ back ≡ pos 0)
      → (drop z cs ≡ []) ⊎ (by +ℤ back ≡ pos 0)
  unfolding TickFits
  none_or_back opposite = choose (drop z cs) refl
    where
      choose : (l : List Change) → drop z cs ≡ l → (drop z cs ≡ []) ⊎ (by +ℤ back ≡ pos 0)
      choose [] is = inl is
      choose (c ∷ l) is =
          inr (opposite c.tick (All-head (λ c. c.tick ≤ END_LIMIT) c l
          (subst (All (λ c. c.tick ≤ END_LIMIT)) is (All-drop (λ c. c.tick ≤ END_LIMIT) z cs upto)))
          (All-head (TickFits by) c l (subst (AllTicksFit by) is fit)))

  none_later : drop z cs ≡ [] → drop (a + length piece) (spliced_changes cs a z piece by) ≡ []
  none_later none = later_of-spliced cs piece a z by back ordered within ∙ ap (map (moved_change by)) none

  -- without later changes any offset does
  any_offset : (other : ℤ) → drop z cs ≡ []
      → spliced_changes (spliced_changes cs a z piece by) a (a + length piece) (slice_range cs a z) back
      ≡ spliced_changes (spliced_changes cs a z piece by) a (a + length piece) (slice_range cs a z) other
  unfolding spliced_changes
  any_offset other none =
      let first = take a (spliced_changes cs a z piece by) ++ slice_range cs a z in
      ap (λ l. first ++ map (moved_change back) l) (none_later none)
      ∙ sym (ap (λ l. first ++ map (moved_change other) l) (none_later none))

  pub exchanged_back : ((tick : ℕ) → tick ≤ END_LIMIT → FitsUnsigned w64 (pos tick +ℤ by) → by +ℤ back ≡ pos 0)
      → (spliced_changes (spliced_changes cs a z piece by) a (a + length piece) (slice_range cs a z) back ≡ cs)
      × AllTicksFit back (drop (a + length piece) (spliced_changes cs a z piece by))
  exchanged_back opposite =
      elim (none_or_back opposite) [
        | inl none ↦ (
          any_offset (neg_ℤ by) none ∙ spliced_back cs piece a z by (neg_ℤ by) ordered within fit (omega (arith, ints)),
          subst (AllTicksFit back) (sym (none_later none)) (All-nil (TickFits back)),
        )
        | inr sum ↦ (
          spliced_back cs piece a z by back ordered within fit sum,
          back_fits cs piece a z by back ordered within
              (All-weaker (λ (c : Change). c.tick ≤ END_LIMIT) (λ (c : Change). c.tick < 2 ^ 64)
              (λ c le. omega (arith, le)) cs upto) fit sum,
        )
      ]

pub led_back : (cs : List Change) (p trimmed q : PieceView) → IsTrimmed cs p trimmed → All (λ c. c.tick ≤ END_LIMIT) cs
    → ((tick : ℕ) → tick ≤ END_LIMIT → FitsUnsigned w64 (pos tick +ℤ trimmed.by) → trimmed.by +ℤ q.by ≡ pos 0)
    → q.signal ≡ trimmed.signal → q.from ≡ trimmed.from → q.to ≡ trimmed.from + length trimmed.changes
    → q.changes ≡ slice_range cs trimmed.from trimmed.to → IsOppositePiece cs p q
led_back cs p trimmed q is upto opposite signal from to changes =
    let both = exchanged_back cs trimmed.changes trimmed.from trimmed.to trimmed.by q.by is.ordered is.within is.ticks
    upto opposite in
    let long = back_within cs trimmed.changes trimmed.from trimmed.to trimmed.by q.by is.ordered is.within in
    record {
      signal = signal ∙ is.signal;
      ordered = omega (arith, from, to);
      within = omega (arith, to, ap length is.same, long);
      ticks = subst (λ l. AllTicksFit q.by (drop q.to l)) is.same
          (subst (λ n. AllTicksFit q.by (drop n (changes_with_piece trimmed cs))) (sym to) both.1);
      back = (λ i. spliced_changes (sym is.same i) (from i) (to i) (changes i) q.by) ∙ both.0;
      stored = omega (arith, ap length changes, length-between cs trimmed.from trimmed.to is.within, is.touched_only);
    }
