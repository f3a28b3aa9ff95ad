-- Walks over the pieces of a record: what holds after one more piece.
use Rattle.std.proofs.Common.{◌-◌, ◌≡◌, ◌≢◌, ℕ, suc, refl, vec_capacity, ◌+◌, ◌<◌, ◌≤◌, List, [], ◌∷◌, ◌++◌, length}
use Rattle.std.proofs.Common.{take, drop, map, get_or, set, All, Option, Some, None, sym, ap, subst, ◌∙◌, inl, inr}
use Rattle.std.proofs.Common.{arith}
use Rattle.std.proofs.lemmas.List.{length-map, length-drop, get_or-map, get_or-drop, set-get_or, map-set, map-append}
use Rattle.std.proofs.lemmas.List.{get_or_default, get_or-set_same, get_or-set_other, drop-set-lt, drop-drop, drop_more}
use Rattle.std.proofs.lemmas.List.{take_more_set}
use Rattle.std.specs.Option.{unwrap_or}
use Rattle.std.specs.Prelude.{MatchOption}
use Rattle.std.proofs.lemmas.Bool.{cases_eq}
use Rattle.std.proofs.lemmas.List.Elements.{All-head, All-tail}
use Rattle.vcd_core.specs.declared.capture.Signal.{Signal}
use Rattle.vcd_core.specs.Contents.{Contents, SignalContents, signal_at}
use Rattle.vcd_core.specs.declared.capture.Capture.{Capture}
use Rattle.vcd_core.specs.CaptureContents.{signal_contents, contents}
use Rattle.vcd_core.specs.WaveView.{WaveView}
use Rattle.vcd_core.specs.Splice.{spliced_changes}
use Rattle.vcd_edit.specs.declared.record.Piece.{Piece}
use Rattle.vcd_edit.specs.RecordView.{PieceView}
use Rattle.vcd_edit.specs.AppliedRecords.{changes_with_piece, with_piece, with_pieces, RiseFrom}
use Rattle.vcd_edit.specs.Records.{piece_view}
use Rattle.vcd_edit.specs.inside.exchange.Pieces.{IsOppositePiece, PieceReady, PieceReadyIn, AreOppositePieces, wave_at}
use Rattle.vcd_edit.specs.inside.exchange.Pieces.{HasNoLessRoom, HasRoomForPiece, CanBePutIn, IsComing, HaveRoom}
use Rattle.vcd_edit.specs.inside.exchange.Pieces.{ExchangedSoFar}
use Rattle.vcd_edit.proofs.shared.Lists.{drop_here, take_here}
use Rattle.vcd_edit.proofs.exchange.ExchangedPieces.{ready_after, with_pieces-push, AreOppositePieces-push, all_from}
use Rattle.vcd_edit.proofs.exchange.ExchangedPieces.{contents_at, wave_is_there, piece_put, other_waves}

pub views_kept : (ps : List Piece) (i : ℕ) (x y : Piece) → i < length ps → x ≡ get_or ps i x
    → piece_view y ≡ piece_view x → map piece_view (set ps i y) ≡ map piece_view ps
views_kept ps i x y within is same =
    map-set piece_view ps i y ∙ ap (set (map piece_view ps) i) (same ∙ ap piece_view is
    ∙ sym (get_or-map piece_view ps i x (piece_view x) within)) ∙ set-get_or (map piece_view ps) i (piece_view x)

-- the same piece makes the same of the same wave
pub same_coming : (v w : WaveView) (p q : Piece) → p.from ≡ q.from → p.to ≡ q.to → p.by ≡ q.by
    → p.changes.items ≡ q.changes.items → v.width ≡ w.width → v.changes ≡ w.changes
    → (coming : WaveView) → IsComing w q coming → IsComing v p coming
same_coming v w p q from to by items width changes coming is =
    record {
      width = is.width ∙ sym width;
      changes = is.changes ∙ sym (λ i. spliced_changes (changes i) (from i) (to i) (items i) (by i));
    }

-- a wave that can come still can, and room elsewhere is no less
still_put_in : (v w : WaveView) (p : Piece) (coming : Option WaveView) → HasNoLessRoom v w → CanBePutIn v p coming
    → CanBePutIn w p coming
still_put_in v w p None more room =
    record {
      own = (more.own room.own).0;
      room = omega (arith, room.room, ap length more.changes, (more.own room.own).1);
    }
still_put_in v w p (Some coming) more is =
    record {
      width = is.width ∙ sym more.width;
      changes = is.changes ∙ ap (changes_with_piece (piece_view p)) (sym more.changes);
    }

module _ (ss tt' : List Signal) (ps : List Piece) (comings : List (Option WaveView)) (n : ℕ) (y : Piece)
    (within : n < length ps) (before : HaveRoom ss ps comings 0 n)
    (more : (k : ℕ) → HasNoLessRoom (wave_at ss k) (wave_at tt' k)) where
  -- what the earlier pieces need is still there
  pub still_have_room : (m : ℕ) → m ≤ n → HaveRoom tt' (set ps n y) comings 0 m
  still_have_room m most = λ k d from to.
      let was = before k d from (omega (arith, to, most)) in
      subst (λ q. HasRoomForPiece tt' q (get_or comings k None))
      (sym (get_or-set_other ps n k y d (λ same. absurd (omega (arith, same, to, most)))))
      (record {
        wave = still_put_in (wave_at ss (get_or ps k d).signal) (wave_at tt' (get_or ps k d).signal) (get_or ps k d)
            (get_or comings k None) (more (get_or ps k d).signal) was.wave;
        piece = was.piece;
      })

  -- and what the next one needs
  pub have_more_room : (kept : List (Option WaveView)) → ((k : ℕ) → k ≢ n → get_or kept k None ≡ get_or comings k None)
      → HasRoomForPiece tt' y (get_or kept n None) → HaveRoom tt' (set ps n y) kept 0 (n + 1)
  have_more_room kept others room = λ k d from to.
      elim (cases_eq k n) [
        | inl here ↦ subst (λ j. HasRoomForPiece tt' (get_or (set ps n y) j d) (get_or kept j None)) (sym here)
            (subst (λ q. HasRoomForPiece tt' q (get_or kept n None)) (sym (get_or-set_same ps n y d within)) room)
        | inr other ↦ subst (HasRoomForPiece tt' (get_or (set ps n y) k d)) (sym (others k other))
            (still_have_room n (omega arith) k d from (omega (arith, to, other)))
      ]

-- one of pieces that are all ready
pub ready_at : (c : Contents) (ps : List Piece) (i : ℕ) (x : Piece) → i < length ps → x ≡ get_or ps i x
    → All (PieceReadyIn c) (map piece_view ps) → PieceReadyIn c (piece_view x)
ready_at c ps i x within is ready =
    subst (PieceReadyIn c) (get_or-map piece_view ps i x (piece_view x) within ∙ ap piece_view (sym is))
    (ready i (piece_view x) (omega (arith, length-map ps piece_view, within)))

-- and its signal is there
pub signal_is_there : (c : Contents) (signals : List Signal) (x : Piece) → c.signals ≡ map signal_contents signals
    → PieceReadyIn c (piece_view x) → x.signal < length signals
signal_is_there c signals x is ready = omega (arith, ready.signal, ap length is, length-map signals signal_contents)

-- the wave that comes for the next piece
pub next_coming : (comings left later : List (Option WaveView)) (i n m : ℕ) (next : Option (Option WaveView))
    → left ≡ drop i comings → length left ≡ n → length later ≡ m
    → MatchOption next ((n ≡ 0) × (m ≡ 0)) (λ x. (left ≡ x ∷ later) × (m + 1 ≡ n))
    → (get_or comings i None ≡ unwrap_or next None) × (later ≡ drop (i + 1) comings)
next_coming comings left later i n m next is count later_count step =
    let at : get_or comings i None ≡ get_or left 0 None =
    ap (λ k. get_or comings k None) {x = i} {y = i + 0} (omega arith)
    ∙ sym (get_or-drop i comings 0 None) ∙ ap (λ l. get_or l 0 None) (sym is) in
    let here = taken left later next count later_count step in
    (at ∙ here.0, here.1 ∙ ap (drop 1) is ∙ drop-drop 1 i comings)
  where
    taken : (left later : List (Option WaveView)) (next : Option (Option WaveView)) → length left ≡ n → length later ≡ m
        → MatchOption next ((n ≡ 0) × (m ≡ 0)) (λ x. (left ≡ x ∷ later) × (m + 1 ≡ n))
        → (get_or left 0 None ≡ unwrap_or next None) × (later ≡ drop 1 left)
    taken left later (Some coming) count later_count step = (ap (λ l. get_or l 0 None) step.0, ap (drop 1) (sym step.0))
    taken [] [] None count later_count step = (refl, refl)
    taken [] (x ∷ later) None count later_count step = absurd (omega (arith, later_count, step.1))
    taken (x ∷ left) later None count later_count step = absurd (omega (arith, count, step.0))

module _ {before : Contents} {old new : List Piece} {i : ℕ} {comings : List (Option WaveView)} (d : Piece) (c : Capture)
    (far : ExchangedSoFar before old i new (contents c) c.signals comings) (within : i < length new) where
  abbrev x : Piece
  x = get_or new i d

  within_old : i < length old
  within_old = omega (arith, ap length far.rest, length-drop i new, length-drop i old)

  -- the piece at hand is as at first
  as_first : x ≡ get_or old i x
  as_first = get_or_default new i d x within
      ∙ cc (drop_more new i x within, far.rest, drop_more old i x within_old)

  -- the later pieces begin with it
  begins : drop i old ≡ x ∷ drop (i + 1) old
  begins = drop_here old i x within_old as_first

  old_more : map piece_view (take (i + 1) old) ≡ map piece_view (take i old) ++ piece_view x ∷ []
  old_more = ap (map piece_view) (take_here old i x within_old as_first) ∙ map-append piece_view (take i old) (x ∷ [])

  ready_now : All (PieceReadyIn (contents c)) (piece_view x ∷ map piece_view (drop (i + 1) old))
  ready_now = subst (λ l. All (PieceReadyIn (contents c)) (map piece_view l)) begins far.ready

  rise_now : RiseFrom far.rise.0 (piece_view x ∷ map piece_view (drop (i + 1) old))
  rise_now = subst (λ l. RiseFrom far.rise.0 (map piece_view l)) begins far.rise.1

  next_ready : PieceReadyIn (contents c) (piece_view x)
  next_ready = All-head (PieceReadyIn (contents c)) (piece_view x) (map piece_view (drop (i + 1) old)) ready_now

  pub next_signal : x.signal < length c.signals
  next_signal = signal_is_there (contents c) c.signals x refl next_ready

  next_room : HasRoomForPiece c.signals x (get_or comings i None)
  next_room = subst (λ q. HasRoomForPiece c.signals q (get_or comings i None))
      (sym as_first) (far.room i x (omega arith) within_old)

  pub next_piece_room : x.to - x.from ≤ vec_capacity x.changes
  next_piece_room = next_room.piece

  others : All (λ p. p.signal ≢ x.signal) (map piece_view (drop (i + 1) old))
  others = λ k d less same.
      absurd (omega (arith, same, all_from (suc x.signal) (map piece_view (drop (i + 1) old)) rise_now.1 k d less))

  other_later : (k : ℕ) (d : Piece) → i + 1 ≤ k → k < length old → (get_or old k d).signal ≢ x.signal
  other_later k d from to =
      let there : get_or (drop (i + 1) old) (k - (i + 1)) d ≡ get_or old k d = get_or-drop (i + 1) old (k - (i + 1)) d
      ∙ ap (λ n. get_or old n d) {x = i + 1 + (k - (i + 1))} {y = k} (omega (arith, from)) in
      let less : k - (i + 1) < length (drop (i + 1) old) = omega (arith, from, to, length-drop (i + 1) old) in
      subst (λ (q : PieceView). q.signal ≢ x.signal)
      (get_or-map piece_view (drop (i + 1) old) (k - (i + 1)) d (piece_view d) less ∙ ap piece_view there)
      (others (k - (i + 1)) (piece_view d) (omega (arith, less, length-map (drop (i + 1) old) piece_view)))

  -- the signal of the next piece
  module _ (s : Signal) (here : s ≡ get_or c.signals x.signal s) where
    pub wave_ready : PieceReady s.wave.width s.wave.changes (piece_view x)
    wave_ready = subst (λ (t : SignalContents). PieceReady t.width t.changes (piece_view x))
        (contents_at c.signals x.signal s next_signal here) next_ready.ready

    pub wave_room : CanBePutIn s.wave x (get_or comings i None)
    wave_room = subst (λ w. CanBePutIn w x (get_or comings i None))
        (wave_is_there c.signals x.signal s next_signal here) next_room.wave

    -- and what holds after its exchange
    module _ (y : Piece) (w : WaveView) (width : w.width ≡ s.wave.width)
        (changes : w.changes ≡ changes_with_piece (piece_view x) s.wave.changes)
        (opposite : IsOppositePiece s.wave.changes (piece_view x) (piece_view y)) where
      abbrev after : Capture
      after = record c { signals = set c.signals x.signal (record s { wave = w }) }

      put : contents after ≡ with_piece (contents c) (piece_view x)
      put = piece_put c s w (piece_view x) next_signal here width changes

      leads : IsOppositePiece (signal_at (contents c) x.signal).changes (piece_view x) (piece_view y)
      leads = subst (λ (t : SignalContents). IsOppositePiece t.changes (piece_view x) (piece_view y))
          (sym (contents_at c.signals x.signal s next_signal here)) opposite

      made : contents after ≡ with_pieces before (map piece_view (take i old) ++ piece_view x ∷ [])
      made = put ∙ ap (λ d. with_piece d (piece_view x)) far.there
          ∙ sym (with_pieces-push before (map piece_view (take i old)) (piece_view x))

      leads_on : AreOppositePieces before (map piece_view (take i old) ++ piece_view x ∷ [])
          (map piece_view (take i new) ++ piece_view y ∷ [])
      leads_on = AreOppositePieces-push before (map piece_view (take i old)) (map piece_view (take i new))
          (piece_view x) (piece_view y) far.back
          (subst (λ (d : Contents). x.signal < length d.signals) far.there next_ready.signal)
          (subst (λ (d : Contents). IsOppositePiece (signal_at d x.signal).changes (piece_view x) (piece_view y))
          far.there leads)

      new_more : map piece_view (take (i + 1) (set new i y)) ≡ map piece_view (take i new) ++ piece_view y ∷ []
      new_more = ap (map piece_view) (take_more_set new i y within) ∙ map-append piece_view (take i new) (y ∷ [])

      pub put_more : ExchangedSoFar before old (i + 1) (set new i y) (contents after) after.signals comings
      put_more =
          record {
            rest = drop-set-lt (i + 1) new i y (omega arith) ∙ sym (drop-drop 1 i new) ∙ ap (drop 1) far.rest
                ∙ drop-drop 1 i old;
            there = made ∙ ap (with_pieces before) (sym old_more);
            back = subst (λ (t : Type 0). t) (λ j. AreOppositePieces before (sym old_more j) (sym new_more j)) leads_on;
            ready = subst (λ d. All (PieceReadyIn d) (map piece_view (drop (i + 1) old))) (sym put)
                (λ k d less. ready_after (contents c) (piece_view x) (get_or (map piece_view (drop (i + 1) old)) k d)
                (others k d less)
                (All-tail (PieceReadyIn (contents c)) (piece_view x) (map piece_view (drop (i + 1) old)) ready_now k d
                less));
            rise = (suc x.signal, rise_now.1);
            room = λ k d from to.
                let was = far.room k d (omega (arith, from)) to in
                record {
                  wave = subst (λ v. CanBePutIn v (get_or old k d) (get_or comings k None))
                      (sym (other_waves c.signals x.signal (get_or old k d).signal (record s { wave = w })
                      (other_later k d from to))) was.wave;
                  piece = was.piece;
                };
          }
