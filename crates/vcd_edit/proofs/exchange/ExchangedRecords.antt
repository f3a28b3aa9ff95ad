-- The record of the opposite step: it undoes the step, it fits, and it stores touched changes only.
use Rattle.std.proofs.Common.{◌≡◌, ℕ, zero, suc, ◌+◌, ◌^◌, ◌<◌, ◌≤◌, ℤ, neg_ℤ, List, [], ◌∷◌, ◌++◌, length, take, drop}
use Rattle.std.proofs.Common.{map, get_or, set, slice_index_or, All, Option, Some, None, refl, sym, ap, subst, ◌∙◌}
use Rattle.std.proofs.Common.{arith, ◌≢◌}
use Rattle.std.specs.List.{insert, remove}
use Rattle.std.proofs.lemmas.List.{length-set, length-map, length-take-le, get_or-set_same, get_or_at, set-set}
use Rattle.std.proofs.lemmas.List.{set-get_or, drop_more}
use Rattle.std.proofs.lemmas.List.Elements.{All-nil, All-cons, All-weaker, All-get_or}
use Rattle.std.proofs.lemmas.List.Edits.{length-insert, length-remove}
use Rattle.std.proofs.lemmas.Option.{none-some}
use Rattle.vcd_core.specs.declared.wave.Change.{Change}
use Rattle.vcd_core.specs.declared.capture.TheConstants.{END_LIMIT}
use Rattle.vcd_core.specs.Splice.{moved_change, spliced_changes}
use Rattle.vcd_core.proofs.shared.Pushes.{all_from_upto}
use Rattle.vcd_core.specs.Contents.{Contents, SignalContents, no_signal, signal_at}
use Rattle.vcd_core.specs.Sound.{IsSound, IsSoundSignal}
use Rattle.vcd_core.specs.WaveView.{WaveView}
use Rattle.vcd_core.specs.declared.capture.Signal.{Signal}
use Rattle.vcd_edit.specs.RecordView.{PieceView, RecordView}
use Rattle.vcd_edit.specs.Effect.{renamed_signal}
use Rattle.vcd_edit.specs.AppliedRecords.{changes_with_piece, with_piece, with_pieces, with_first_word}
use Rattle.vcd_edit.specs.AppliedRecords.{signals_with_one_in_out, with_signal_in_out, with_end, apply_record}
use Rattle.vcd_edit.specs.AppliedRecords.{PieceFits, WordFits, MayPutInOrTakeOut, SignalFits, Fits, RiseFrom}
use Rattle.vcd_edit.specs.AppliedRecords.{IsOfOneKind, HasNeitherPiecesNorSignal}
use Rattle.vcd_edit.specs.Touched.{touched_in_signal, touched_from, partners, record_pairing, pairing_at}
use Rattle.vcd_edit.specs.Touched.{stored_changes, change_count}
use Rattle.vcd_edit.specs.inside.exchange.Pieces.{PieceReadyIn, AreOppositePieces, HaveRoom}
use Rattle.vcd_edit.specs.inside.exchange.Opposites.{opposite_word, removed_signal, opposite_signal, opposite_end}
use Rattle.vcd_edit.specs.inside.exchange.Opposites.{IsNamedAt, IsOppositeRecord}
use Rattle.vcd_edit.specs.inside.fitting.FittingTests.{AreSoundFrom}
use Rattle.vcd_edit.specs.declared.record.Piece.{Piece}
use Rattle.vcd_edit.specs.Records.{signal_view}
use Rattle.vcd_edit.proofs.exchange.ExchangedPieces.{all_back, rise_back, back_fits_all}
use Rattle.vcd_edit.proofs.fitting.FittingPieces.{one_piece}
use Rattle.vcd_edit.proofs.shared.Lists.{both_parts}
use Rattle.vcd_edit.proofs.shared.TouchedChanges.{touched-set, stored_within}

-- ==== the record of the opposite step: it undoes the step, it fits, and it stores touched changes only

-- ---- pieces and another end

pieces_of_end : (e : Option ℕ) (c : Contents) (ps : List PieceView)
    → with_pieces (with_end e c) ps ≡ with_end e (with_pieces c ps)
unfolding with_pieces
pieces_of_end None c ps = refl
pieces_of_end (Some e) c [] = refl
pieces_of_end (Some e) c (p ∷ ps) = pieces_of_end (Some e) (with_piece c p) ps

end_back : (e : Option ℕ) (c d : Contents) → d.end ≡ c.end → with_end (opposite_end e c) (with_end e d) ≡ d
end_back None c d same = refl
end_back (Some e) c d same =
    λ i. record { header = d.header; timescale = d.timescale; end = sym same i; signals = d.signals }

fits_at_end : (e : Option ℕ) (c : Contents) (p : PieceView) → PieceFits c p → PieceFits (with_end e c) p
fits_at_end None c p fits = fits
fits_at_end (Some e) c p fits = assumption

pub end_kept : (c : Contents) (ps : List PieceView) → (with_pieces c ps).end ≡ c.end
unfolding with_pieces
end_kept c [] = refl
end_kept c (p ∷ ps) = end_kept (with_piece c p) ps

-- ---- a word

word_back_at : (c : Contents) (k : ℕ) (word : List ℕ) → k < length c.signals → 0 < length (signal_at c k).words
    → with_first_word (Some (k, slice_index_or (signal_at c k).words 0 [])) (with_first_word (Some (k, word)) c) ≡ c
word_back_at c k word within named =
    let old = signal_at c k in
    let new = renamed_signal word old in
    let first = slice_index_or old.words 0 [] in
    let at : get_or (set c.signals k new) k no_signal ≡ new = get_or-set_same c.signals k new no_signal within in
    let whole : renamed_signal first new ≡ old =
    ap (λ ws. record old { words = ws }) (sym (drop_more old.words 0 [] named)) in
    let signals : set (set c.signals k new) k (renamed_signal first (get_or (set c.signals k new) k no_signal))
    ≡ c.signals =
    ap (λ s. set (set c.signals k new) k (renamed_signal first s)) at
    ∙ set-set c.signals k new (renamed_signal first new) ∙ ap (set c.signals k) whole
    ∙ set-get_or c.signals k no_signal in
    λ i. record { header = c.header; timescale = c.timescale; end = c.end; signals = signals i }

word_of_end : (e : Option ℕ) (k : ℕ) (word : List ℕ) (c : Contents)
    → with_first_word (Some (k, word)) (with_end e c) ≡ with_end e (with_first_word (Some (k, word)) c)
word_of_end None k word c = refl
word_of_end (Some e) k word c = refl

-- ---- a signal put in or taken out

pub insert-remove : (ss : List SignalContents) (k : ℕ) → k < length ss
    → insert (remove ss k) k (get_or ss k no_signal) ≡ ss
insert-remove [] k within = absurd (omega arith)
insert-remove (s ∷ ss) zero within = refl
insert-remove (s ∷ ss) (suc k) within = ap (λ l. s ∷ l) (insert-remove ss k (omega arith))

remove-insert : (ss : List SignalContents) (k : ℕ) (s : SignalContents) → k ≤ length ss → remove (insert ss k s) k ≡ ss
remove-insert ss zero s within = refl
remove-insert [] (suc k) s within = absurd (omega arith)
remove-insert (x ∷ ss) (suc k) s within = ap (λ l. x ∷ l) (remove-insert ss k s (omega arith))

signals_back : (c : Contents) (k : ℕ) (o : Option SignalContents) → MayPutInOrTakeOut c k o
    → signals_with_one_in_out k (removed_signal k o c) (signals_with_one_in_out k o c.signals) ≡ c.signals
signals_back c k (Some s) may = remove-insert c.signals k s may
signals_back c k None may = insert-remove c.signals k may

may_be_opposite : (c d : Contents) (k : ℕ) (o : Option SignalContents) → MayPutInOrTakeOut c k o
    → d.signals ≡ signals_with_one_in_out k o c.signals → MayPutInOrTakeOut d k (removed_signal k o c)
may_be_opposite c d k (Some s) may is = omega (arith, may, ap length is, length-insert c.signals k s may)
may_be_opposite c d k None may is = omega (arith, may, ap length is, length-remove c.signals k may)

pub signals_of_end : (e : Option ℕ) (c : Contents) → (with_end e c).signals ≡ c.signals
signals_of_end None c = refl
signals_of_end (Some e) c = refl

-- ---- the three kinds of step

-- only pieces, and perhaps an end
module _ (e : Option ℕ) (c : Contents) (ps qs : List PieceView) (rise : RiseFrom 0 ps)
    (lead : AreOppositePieces c ps qs)
  where
    pieces_back : with_end (opposite_end e (with_pieces c ps)) (with_pieces (with_end e (with_pieces c ps)) qs) ≡ c
    pieces_back =
        ap (with_end (opposite_end e (with_pieces c ps))) (pieces_of_end e (with_pieces c ps) qs
        ∙ ap (with_end e) (all_back c ps qs 0 rise lead)) ∙ end_back e (with_pieces c ps) c (sym (end_kept c ps))

    pieces_fit : All (PieceFits (with_end e (with_pieces c ps))) qs
    pieces_fit =
        All-weaker (PieceFits (with_pieces c ps)) (PieceFits (with_end e (with_pieces c ps)))
        (fits_at_end e (with_pieces c ps)) qs (back_fits_all c ps qs 0 rise lead)

-- only a word, and perhaps an end
word_back : (e : Option ℕ) (c : Contents) (k : ℕ) (word : List ℕ) → k < length c.signals
    → 0 < length (signal_at c k).words → let d = with_first_word (Some (k, word)) c in
    with_end (opposite_end e d)
    (with_first_word (Some (k, slice_index_or (signal_at c k).words 0 [])) (with_end e d)) ≡ c
word_back e c k word within named =
    let d = with_first_word (Some (k, word)) c in
    ap (with_end (opposite_end e d)) (word_of_end e k (slice_index_or (signal_at c k).words 0 []) d
    ∙ ap (with_end e) (word_back_at c k word within named)) ∙ end_back e d c refl

-- only a signal put in or taken out, and perhaps an end
signal_back : (e : Option ℕ) (c : Contents) (k : ℕ) (o : Option SignalContents) → MayPutInOrTakeOut c k o
    → let d = with_signal_in_out (Some (k, o)) c in
    with_end (opposite_end e d) (with_signal_in_out (Some (k, removed_signal k o c)) (with_end e d)) ≡ c
signal_back None c k o may =
    λ i. record { header = c.header; timescale = c.timescale; end = c.end; signals = signals_back c k o may i }
signal_back (Some e) c k o may =
    λ i. record { header = c.header; timescale = c.timescale; end = c.end; signals = signals_back c k o may i }

-- ---- the kinds of records

-- a record of these parts
abbrev pub parts : List PieceView → Option (ℕ × List ℕ) → Option (ℕ × Option SignalContents) → Option ℕ → RecordView
parts ps w m e = record { pieces = ps; word = w; signal = m; other_end = e }

-- what holds of records with pieces, with a word, and with a signal, holds of each record
pub by_kind : (P : RecordView → Type 0)
    → ((ps : List PieceView) (e : Option ℕ) → RiseFrom 0 ps → P (parts ps None None e))
    → ((w : ℕ × List ℕ) (e : Option ℕ) → P (parts [] (Some w) None e))
    → ((m : ℕ × Option SignalContents) (e : Option ℕ) → P (parts [] None (Some m) e))
    → (r : RecordView) → IsOfOneKind r → P r
by_kind P pieces word signal r one = of_parts r.word r.signal one
  where
    of_parts : (w : Option (ℕ × List ℕ)) (m : Option (ℕ × Option SignalContents))
        → IsOfOneKind (parts r.pieces w m r.other_end) → P (parts r.pieces w m r.other_end)
    of_parts None None one = pieces r.pieces r.other_end one.rise
    of_parts (Some w) None one = subst (λ ps. P (parts ps (Some w) None r.other_end))
        (sym (one.word_alone (λ none. absurd (cc)))) (word w r.other_end)
    of_parts None (Some m) one = subst (λ ps. P (parts ps None (Some m) r.other_end))
        (sym (one.signal_alone (λ none. absurd (cc))).0) (signal m r.other_end)
    of_parts (Some w) (Some m) one =
        let both : Some w ≡ None = (one.signal_alone (λ none. absurd (cc))).1 in absurd (cc)

-- nothing undoes no pieces
none_back : (c : Contents) (P : List PieceView → Type 0) → P [] → (qs : List PieceView) → AreOppositePieces c [] qs
    → P qs
none_back c P here [] lead = here
none_back c P here (q ∷ qs) lead = absurd lead

-- ---- what the opposite stores

signal_stores : (advance : ℕ → ℤ) (c : Contents) (k : ℕ) (o : Option SignalContents) (after : List SignalContents)
    → MayPutInOrTakeOut c k o → after ≡ signals_with_one_in_out k o c.signals
    → change_count (removed_signal k o c) ≤ touched_from advance 0 c.signals (partners (pairing_at k o) after)
signal_stores advance c k (Some s) after may is = omega arith
signal_stores advance c k None after may is =
    let ns = insert (map Some after) k None in
    let count : length (map Some after) + 1 ≡ length c.signals =
    omega (arith, length-map {A = SignalContents} after Some, ap length is, length-remove c.signals k may) in
    let partner : get_or ns k None ≡ None =
    get_or_at (take k (map Some after)) None (drop k (map Some after)) None k
    (length-take-le k (map Some after) (omega (arith, may, count))) in
    let mine : length (signal_at c k).changes ≡ touched_in_signal (advance (0 + k)) (signal_at c k) (get_or ns k None) =
    ap (touched_in_signal (advance (0 + k)) (signal_at c k)) (sym partner) in
    let long : k < length ns =
    omega (arith, may, count, length-insert (map Some after) k None (omega (arith, may, count))) in
    let nothing : touched_in_signal (advance (0 + k)) no_signal (get_or ns k None) ≡ 0 =
    ap (touched_in_signal (advance (0 + k)) no_signal) partner in
    omega (arith, mine, nothing, touched-set advance 0 c.signals ns k no_signal no_signal None may long)

-- what undoes a step also fits
undoes : (c : Contents) (r q : RecordView) → IsSound c → apply_record q (apply_record r c) ≡ c
    → All (PieceFits (apply_record r c)) q.pieces → WordFits (apply_record r c) q.word
    → SignalFits (apply_record r c) q.signal → ((advance : ℕ → ℤ) → All (λ p. advance p.signal ≡ neg_ℤ p.by) r.pieces
    → stored_changes q ≤ touched_from advance 0 c.signals
    (partners (record_pairing r.signal) (apply_record r c).signals)) → IsOppositeRecord c r q
undoes c r q sound leads pieces word signal stored = record {
  fits = record { pieces = pieces; word = word; signal = signal; sound = subst IsSound (sym leads) sound };
  leads = leads;
  stored = stored;
}

named : (c : Contents) (k : ℕ) → IsSound c → k < length c.signals → 0 < length (signal_at c k).words
named c k sound within = (All-get_or (IsSoundSignal c.end) c.signals k no_signal within sound.signals).named

-- the capture after the signal and the pieces
abbrev pub spliced_contents : Contents → RecordView → Contents
spliced_contents c r = with_pieces (with_signal_in_out r.signal c) r.pieces

-- the capture after all parts, and the record that is left
pub record IsExchanged (c : Contents) (r : RecordView) (end : Contents) (q : RecordView) : Type 0 where
  pub effect : end ≡ apply_record r c
  pub one : IsOfOneKind q
  pub neither : HasNeitherPiecesNorSignal r → HasNeitherPiecesNorSignal q
  pub leads : IsOppositeRecord c r q

-- the exchange in the code's order: the signal, the pieces, the word, the end
abbrev pub ExchangeInOrder : Contents → RecordView → List PieceView → Type 0
ExchangeInOrder c r qs =
    let worded = with_first_word r.word (spliced_contents c r) in
    IsExchanged c r (with_end r.other_end worded) (parts qs (opposite_word r.word (spliced_contents c r))
    (opposite_signal r.signal c) (opposite_end r.other_end worded))

pub all_exchanged : (c : Contents) (r : RecordView) → IsOfOneKind r → IsSound c → WordFits c r.word
    → SignalFits c r.signal → (qs : List PieceView) → AreOppositePieces (with_signal_in_out r.signal c) r.pieces qs
    → ExchangeInOrder c r qs
unfolding apply_record with_pieces
all_exchanged c r one sound =
    by_kind (λ r. WordFits c r.word → SignalFits c r.signal → (qs : List PieceView)
    → AreOppositePieces (with_signal_in_out r.signal c) r.pieces qs → ExchangeInOrder c r qs)
    (λ ps e rise word signal qs lead. record {
      effect = refl;
      one = record {
        rise = rise_back c ps qs 0 lead rise;
        word_alone = λ some. absurd (some refl);
        signal_alone = λ some. absurd (some refl);
      };
      neither = λ none.
          (none_back c (λ l. l ≡ []) refl qs (subst (λ l. AreOppositePieces c l qs) none.0 lead), refl);
      leads = undoes c (parts ps None None e) (parts qs None None (opposite_end e (with_pieces c ps))) sound
          (pieces_back e c ps qs rise lead) (pieces_fit e c ps qs rise lead) tt tt
          (λ advance opposite. omega (
            arith,
            stored_within advance c ps qs 0 rise lead opposite,
            ap (λ ss. touched_from advance 0 c.signals (map Some ss)) (signals_of_end e (with_pieces c ps)),
          ));
    })
    (λ w e word signal. let d = with_first_word (Some w) c in
    none_back c (ExchangeInOrder c (parts [] (Some w) None e)) (record {
      effect = refl;
      one = record { rise = tt; word_alone = λ some. refl; signal_alone = λ some. absurd (some refl) };
      neither = λ none. (refl, refl);
      leads = undoes c (parts [] (Some w) None e) (parts [] (opposite_word (Some w) c) None (opposite_end e d)) sound
          (word_back e c w.0 w.1 word (named c w.0 sound word)) (All-nil (PieceFits (with_end e d)))
          (omega (
            arith,
            word,
            ap length (signals_of_end e d),
            length-set c.signals w.0 (renamed_signal w.1 (signal_at c w.0)),
          ))
          tt (λ advance opposite. omega arith);
    }))
    (λ m e word signal. let d = with_signal_in_out (Some m) c in
    none_back d (ExchangeInOrder c (parts [] None (Some m) e)) (record {
      effect = refl;
      one = record { rise = tt; word_alone = λ some. absurd (some refl); signal_alone = λ some. (refl, refl) };
      neither = λ none. absurd (none-some _ (sym none.1));
      leads = undoes c (parts [] None (Some m) e) (parts [] None (opposite_signal (Some m) c) (opposite_end e d)) sound
          (signal_back e c m.0 m.1 signal) (All-nil (PieceFits (with_end e d))) tt
          (may_be_opposite c (with_end e d) m.0 m.1 signal (signals_of_end e d))
          (λ advance opposite. omega (
            arith,
            signal_stores advance c m.0 m.1 (with_end e d).signals signal (signals_of_end e d),
          ));
    })) r one

-- ---- pieces of a record that fits are ready

-- the changes of a piece are among those of its result
piece_among : (P : Change → Type 0) (p : PieceView) (cs : List Change) → All P (changes_with_piece p cs)
    → All P p.changes
unfolding spliced_changes
piece_among P p cs all =
    let prefix = take p.from cs in
    ((both_parts P prefix p.changes).0
    ((both_parts P (prefix ++ p.changes) (map (moved_change p.by) (drop p.to cs))).0 all).0).1

ready_from : (end : ℕ) (c : Contents) (k : ℕ) (ps : List PieceView) → end ≤ END_LIMIT → IsSound c → RiseFrom k ps
    → AreSoundFrom end c k ps → All (PieceReadyIn c) ps
ready_from end c k [] small sound rise fit = All-nil (PieceReadyIn c)
ready_from end c k (p ∷ ps) small sound (from, rise) fit =
    let ((within, (names, valid), prefix), rest) = (one_piece end c p ps k from rise).0 fit in
    let old = (signal_at c p.signal).changes in
    let ticks = (All-get_or (IsSoundSignal c.end) c.signals p.signal no_signal within sound.signals).ticks in
    All-cons (PieceReadyIn c) p ps (record {
      signal = within;
      ready = record {
        ordered = valid.ordered;
        within = valid.within;
        ticks = valid.ticks;
        form = valid.form;
        small = piece_among (λ c. c.tick < 2 ^ 64) p old
            (λ j d less. omega (arith, small, all_from_upto end (changes_with_piece p old) valid.upto j d less));
        upto = λ j d less. omega (arith, sound.end, all_from_upto c.end old ticks j d less);
      };
    })
    (ready_from end c (suc p.signal) ps small sound rise rest)

pub pieces_ready : (c : Contents) (r : RecordView) → IsOfOneKind r → IsSound c → Fits r c
    → All (PieceReadyIn c) r.pieces
unfolding apply_record
pieces_ready c r one sound =
    by_kind (λ r. Fits r c → All (PieceReadyIn c) r.pieces)
    (λ ps e rise fits. let end = (with_end e (with_pieces c ps)).end in
    ready_from end c 0 ps fits.sound.end sound rise (
      fits.pieces,
      subst (All (IsSoundSignal end)) (signals_of_end e (with_pieces c ps)) fits.sound.signals,
    ))
    (λ w e fits. All-nil (PieceReadyIn c)) (λ m e fits. All-nil (PieceReadyIn c)) r one

-- ---- after the signal, and after the pieces

pub ready_moved : (c : Contents) (r : RecordView) → IsOfOneKind r → All (PieceReadyIn c) r.pieces
    → All (PieceReadyIn (with_signal_in_out r.signal c)) r.pieces
ready_moved c =
    by_kind (λ r. All (PieceReadyIn c) r.pieces → All (PieceReadyIn (with_signal_in_out r.signal c)) r.pieces)
    (λ ps e rise ready. ready) (λ w e ready. ready)
    (λ m e ready. All-nil (PieceReadyIn (with_signal_in_out (Some m) c)))

pub word_ready : (c : Contents) → IsSound c → (r : RecordView) → IsOfOneKind r → WordFits c r.word
    → WordFits (spliced_contents c r) r.word × IsNamedAt (spliced_contents c r) r.word
unfolding with_pieces
word_ready c sound =
    by_kind (λ r. WordFits c r.word
    → WordFits (spliced_contents c r) r.word × IsNamedAt (spliced_contents c r) r.word)
    (λ ps e rise word. (tt, tt)) (λ w e word. (word, named c w.0 sound word)) (λ m e word. (tt, tt))

-- ==== a record was exchanged with a capture, part by part

-- a record that puts a signal in or takes one out has no pieces
pub room_then : (signal : Option (ℕ × Option Signal)) (n : ℕ) (ss tt' : List Signal) (l : List Piece)
    (comings : List (Option WaveView)) → (signal_view signal ≢ None → n ≡ 0) → (signal ≡ None → tt' ≡ ss)
    → HaveRoom ss l comings 0 n → HaveRoom tt' l comings 0 n
room_then None n ss tt' l comings none same room = subst (λ xs. HaveRoom xs l comings 0 n) (sym (same refl)) room
room_then (Some x) n ss tt' l comings none same room = λ k d from to.
    absurd (omega (arith, to, none (λ some. none-some _ (sym some))))

-- a record that fits a capture, its pieces as they were lent, and the capture after its signal
pub record Begun (c : Contents) (r : RecordView) (l : List PieceView) (moved : Contents) : Type 0 where
  pub fits : Fits r c
  pub one : IsOfOneKind r
  pub sound : IsSound c
  pub whole : l ≡ r.pieces
  pub to_moved : moved ≡ with_signal_in_out r.signal c

module _ {c : Contents} {r : RecordView} {l : List PieceView} {moved : Contents} (b : Begun c r l moved) where
  -- before the pieces
  pub ready_then : All (PieceReadyIn moved) l
  ready_then = subst (All (PieceReadyIn moved)) (sym b.whole)
      (subst (λ x. All (PieceReadyIn x) r.pieces) (sym b.to_moved)
      (ready_moved c r b.one (pieces_ready c r b.one b.sound b.fits)))

  -- after the pieces, before the word
  module _ (spliced : Contents) (to_spliced : spliced ≡ with_pieces moved l) where
    spliced_is : spliced ≡ with_pieces (with_signal_in_out r.signal c) r.pieces
    spliced_is = to_spliced ∙ (λ i. with_pieces (b.to_moved i) (b.whole i))

    pub word_then : WordFits spliced r.word × IsNamedAt spliced r.word
    word_then = subst (λ x. WordFits x r.word × IsNamedAt x r.word) (sym spliced_is)
        (word_ready c b.sound r b.one b.fits.word)

    -- after the word and the end
    pub exchanged : (named end : Contents) (qs : List PieceView) (q : RecordView)
        → named ≡ with_first_word r.word spliced → end ≡ with_end r.other_end named → AreOppositePieces moved l qs
        → q.pieces ≡ qs → q.word ≡ opposite_word r.word spliced → q.signal ≡ opposite_signal r.signal c
        → q.other_end ≡ opposite_end r.other_end named → IsExchanged c r end q
    exchanged named end qs q to_named to_end lead pieces word signal other_end =
        let named_is = to_named ∙ ap (with_first_word r.word) spliced_is in
        let end_is = to_end ∙ ap (with_end r.other_end) named_is in
        let word_is = word ∙ ap (opposite_word r.word) spliced_is in
        let other_end_is = other_end ∙ ap (opposite_end r.other_end) named_is in
        subst (λ (t : Type 0). t) (λ i. IsExchanged c r (sym end_is i)
        (parts (sym pieces i) (sym word_is i) (sym signal i) (sym other_end_is i)))
        (all_exchanged c r b.one b.sound b.fits.word b.fits.signal qs
        (subst (λ (t : Type 0). t) (λ i. AreOppositePieces (b.to_moved i) (b.whole i) qs) lead))
