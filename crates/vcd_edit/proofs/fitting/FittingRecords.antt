-- What the tests show of records with a word, or with a signal to put in or take out, and of whole
-- records.
use Rattle.std.proofs.Common.{◌≡◌, ◌↔◌, refl, ℕ, suc, ◌+◌, ◌-◌, ◌<◌, ◌≤◌, List, [], ◌∷◌, ◌++◌, length, map, get_or, set}
use Rattle.std.proofs.Common.{take, drop, All, Option, Some, None, sym, ap, subst, ◌∙◌, add-one, arith}
use Rattle.std.specs.Option.{unwrap_or}
use Rattle.std.specs.List.{insert, remove}
use Rattle.std.proofs.lemmas.List.{length-set, length-map, set_split, take-append-drop, take_rest, take-map, drop-map}
use Rattle.std.proofs.lemmas.List.Elements.{All-nil}
use Rattle.std.proofs.lemmas.List.Edits.{length-insert}
use Rattle.vcd_core.specs.declared.capture.Signal.{Signal}
use Rattle.vcd_core.specs.declared.capture.TheConstants.{SIGNAL_LIMIT}
use Rattle.vcd_core.specs.Contents.{Contents, SignalContents, no_signal, signal_at}
use Rattle.vcd_core.specs.CaptureContents.{signal_contents}
use Rattle.vcd_core.specs.Sound.{IsSound, IsSoundSignal}
use Rattle.vcd_edit.specs.RecordView.{PieceView, RecordView}
use Rattle.vcd_edit.specs.Effect.{renamed_signal}
use Rattle.vcd_edit.specs.AppliedRecords.{with_piece, with_pieces, with_first_word, with_signal_in_out, with_end}
use Rattle.vcd_edit.specs.AppliedRecords.{apply_record, PieceFits, Fits, IsOfOneKind}
use Rattle.vcd_edit.specs.inside.fitting.FittingTests.{AreSoundSignals, FieldsFit, KindFits, HasSoundMetadata}
use Rattle.vcd_edit.proofs.exchange.ExchangedPieces.{contents_at}
use Rattle.vcd_edit.proofs.shared.Lists.{both_parts, one_and_others}
use Rattle.vcd_edit.proofs.exchange.ExchangedRecords.{by_kind, signals_of_end}

-- ---- a word

-- the tests of the code
pub word_tells : (end : ℕ) (c : Contents) (k : ℕ) (word : List ℕ) (signals : List Signal) (s : Signal)
    → c.signals ≡ map signal_contents signals → k < length signals → length signals ≤ SIGNAL_LIMIT
    → s ≡ get_or signals k s
    → ((k < length c.signals) × AreSoundSignals end (with_first_word (Some (k, word)) c).signals)
    ↔ (IsSoundSignal end (renamed_signal word (signal_contents s))
    × All (IsSoundSignal end) (remove (map signal_contents signals) k))
word_tells end c k word signals s same within few is =
    let ss = map signal_contents signals in
    let new = renamed_signal word (signal_contents s) in
    let count = length-map signals signal_contents in
    let all : (with_first_word (Some (k, word)) c).signals ≡ take k ss ++ new ∷ drop (suc k) ss =
    (λ i. set (same i) k (renamed_signal word (get_or (same i) k no_signal)))
    ∙ ap (λ (t : SignalContents). set ss k (renamed_signal word t)) (contents_at signals k s within is)
    ∙ set_split ss k new (omega (arith, within, count)) in
    let tells = one_and_others (IsSoundSignal end) (take k ss) new (drop (suc k) ss) in (
      (λ fit. tells.0 (subst (All (IsSoundSignal end)) all fit.1.1)),
      (λ tests. (
        omega (arith, within, count, ap length same),
        (
          omega (arith, few, count, ap length same, length-set c.signals k (renamed_signal word (signal_at c k))),
          subst (All (IsSoundSignal end)) (sym all) (tells.1 tests),
        ),
      )),
    )

-- ---- a signal put in or taken out

pub others_tell : (end at : ℕ) (signals : List Signal)
    → All (IsSoundSignal end) (remove (map signal_contents signals) at)
    ↔ (All (IsSoundSignal end) (map signal_contents (take at signals))
    × All (IsSoundSignal end) (map signal_contents (take (length signals - (at + 1)) (drop (at + 1) signals))))
others_tell end at signals =
    let back : drop (suc at) (map signal_contents signals)
    ≡ map signal_contents (take (length signals - (at + 1)) (drop (at + 1) signals)) =
    drop-map signal_contents (suc at) signals
    ∙ ap (map signal_contents) (rw (← add-one at) (sym (take_rest signals (at + 1)))) in
    subst (λ (t : Type 0). t) (λ i. All (IsSoundSignal end) (remove (map signal_contents signals) at)
    ↔ (All (IsSoundSignal end) (take-map signal_contents at signals i) × All (IsSoundSignal end) (back i)))
    (both_parts (IsSoundSignal end) (take at (map signal_contents signals))
    (drop (suc at) (map signal_contents signals)))

pub put_tells : (end at : ℕ) (s : SignalContents) (signals : List Signal) → at ≤ length signals
    → length signals < SIGNAL_LIMIT
    → ((at ≤ length signals) × AreSoundSignals end (insert (map signal_contents signals) at s))
    ↔ (IsSoundSignal end s × All (IsSoundSignal end) (map signal_contents signals))
put_tells end at s signals within few =
    let ss = map signal_contents signals in
    let count = length-map signals signal_contents in
    let whole = take-append-drop at ss in
    let tells = one_and_others (IsSoundSignal end) (take at ss) s (drop at ss) in (
      (λ fit. let tests = tells.0 fit.1.1 in (tests.0, subst (All (IsSoundSignal end)) whole tests.1)),
      (λ tests. (
        within,
        (
          omega (arith, few, count, length-insert ss at s (omega (arith, within, count))),
          tells.1 (tests.0, subst (All (IsSoundSignal end)) (sym whole) tests.1),
        ),
      )),
    )

-- ---- the kinds

-- a record fits by its kind
kinds_tell : (end : ℕ) (c : Contents) (r : RecordView) → IsOfOneKind r
    → KindFits end c r.pieces r.word r.signal ↔ FieldsFit end r c
unfolding apply_record with_pieces
kinds_tell end c =
    by_kind (λ r. KindFits end c r.pieces r.word r.signal ↔ FieldsFit end r c)
    (λ ps e rise. let same = signals_of_end e (with_pieces c ps) in (
      (λ k. (k.0, tt, tt, subst (AreSoundSignals end) (sym same) k.1)),
      (λ p. (p.0, subst (AreSoundSignals end) same p.3)),
    ))
    (λ w e. let same = signals_of_end e (with_first_word (Some w) c) in (
      (λ k. (All-nil (PieceFits c), k.0, tt, subst (AreSoundSignals end) (sym same) k.1)),
      (λ p. (p.1, subst (AreSoundSignals end) same p.3)),
    ))
    (λ m e. let same = signals_of_end e (with_signal_in_out (Some m) c) in (
      (λ k. (All-nil (PieceFits c), tt, k.0, subst (AreSoundSignals end) (sym same) k.1)),
      (λ p. (p.2, subst (AreSoundSignals end) same p.3)),
    ))

-- ---- the whole record

-- pieces leave all but the signals
frame_kept : (c : Contents) (ps : List PieceView) → with_pieces c ps ≡ record c { signals = (with_pieces c ps).signals }
unfolding with_pieces
frame_kept c [] = refl
frame_kept c (p ∷ ps) = frame_kept (with_piece c p) ps

frame_of : (c : Contents) (w : Option (ℕ × List ℕ)) (m : Option (ℕ × Option SignalContents)) (e : Option ℕ)
    → let d = with_end e (with_signal_in_out m (with_first_word w c)) in
    d ≡ record c { end = unwrap_or e c.end; signals = d.signals }
frame_of c None None None = refl
frame_of c w None None = refl
frame_of c w m None = refl
frame_of c w m e = refl

frame_then : (r : RecordView) (c : Contents)
    → apply_record r c ≡ record c { end = unwrap_or r.other_end c.end; signals = (apply_record r c).signals }
unfolding apply_record
frame_then r c =
    let d = with_pieces c r.pieces in
    frame_of d r.word r.signal r.other_end
    ∙ ap (λ (f : Contents). record f { end = unwrap_or r.other_end f.end; signals = (apply_record r c).signals })
    (frame_kept c r.pieces)

-- the tests of the code, for a record that is equal to its parts
pub fits_tells : (r q : RecordView) (c : Contents) (end : ℕ) → r ≡ q → IsOfOneKind r
    → end ≡ unwrap_or r.other_end c.end
    → Fits q c ↔ (HasSoundMetadata end c × KindFits end c r.pieces r.word r.signal)
fits_tells r q c end same one is =
    let kinds = kinds_tell end c r one in
    let frame : apply_record r c ≡ record c { end = end; signals = (apply_record r c).signals } =
    frame_then r c ∙ ap (λ e. record c { end = e; signals = (apply_record r c).signals }) (sym is) in
    subst (λ q. Fits q c ↔ (HasSoundMetadata end c × KindFits end c r.pieces r.word r.signal)) same (
      (λ fits. let sound = subst IsSound frame fits.sound in (
        (sound.header, sound.timescale, sound.end),
        kinds.1 (fits.pieces, fits.word, fits.signal, (sound.few, sound.signals)),
      )),
      (λ ((header, timescale, small), kind). let (pieces, word, signal, (few, signals)) = kinds.0 kind in
          record {
            pieces = pieces;
            word = word;
            signal = signal;
            sound = subst IsSound (sym frame)
                (record { header = header; timescale = timescale; end = small; few = few; signals = signals });
          }),
    )
