-- Which pieces fit a capture: those that leave waves, as one pass over them and its signals shows.
use Rattle.std.proofs.Common.{◌≡◌, ◌≢◌, ◌↔◌, ℕ, ◌+◌, ◌≤◌, ℤ, pos, ◌+ℤ◌, unsigned_abs, IsTrue, Bool, true, false, List}
use Rattle.std.proofs.Common.{[], ◌∷◌, ◌++◌, length, take, drop, map, refl, sym, subst, Option, Some, None, MatchOption}
use Rattle.std.proofs.Common.{arith, suc, ◌-◌, ◌<◌, get_or, set, All, ap, ◌∙◌, add-one}
use Rattle.std.specs.Int.{w64, FitsUnsigned}
use Rattle.std.specs.Prelude.{is_some, slice_range}
use Rattle.std.proofs.lemmas.Bool.{both_ways, false≢true}
use Rattle.std.proofs.lemmas.List.{append_assoc, take-append-drop, length-map, length-take-le, get_or-map, take_rest}
use Rattle.std.proofs.lemmas.List.{drop-map, take-map, drop-take, set_split, take-set-le, drop-append-le, drop_all}
use Rattle.std.proofs.lemmas.List.Elements.{All-nil, All-cons, All-head, All-tail, All-append}
use Rattle.vcd_core.proofs.shared.Splices.{moved_nowhere}
use Rattle.vcd_core.specs.declared.bit.Bit.{Bit}
use Rattle.vcd_core.specs.declared.capture.TheConstants.{END_LIMIT}
use Rattle.vcd_core.specs.declared.wave.Change.{Change}
use Rattle.vcd_core.specs.Value.{all_x}
use Rattle.vcd_core.specs.Wave.{AreChangesFrom, IsWave, AllUpTo}
use Rattle.vcd_core.specs.WavePush.{last_value}
use Rattle.vcd_core.specs.Splice.{moved_change, TickFits, AllTicksFit, spliced_changes}
use Rattle.vcd_core.specs.declared.capture.Signal.{Signal}
use Rattle.vcd_core.specs.Contents.{Contents, SignalContents, signal_at}
use Rattle.vcd_core.specs.CaptureContents.{signal_contents}
use Rattle.vcd_core.specs.Sound.{IsSoundSignal}
use Rattle.vcd_edit.specs.RecordView.{PieceView}
use Rattle.vcd_edit.specs.inside.fitting.Adjacency.{floor_after, MayComeNext, MayFollow, JoinToWave, IsValidPiece}
use Rattle.vcd_edit.specs.declared.record.Piece.{Piece}
use Rattle.vcd_edit.specs.AppliedRecords.{changes_with_piece, signal_with_changes, with_piece, with_pieces, PieceFits}
use Rattle.vcd_edit.specs.AppliedRecords.{RiseFrom}
use Rattle.vcd_edit.specs.Records.{piece_view}
use Rattle.vcd_edit.specs.inside.fitting.FittingTests.{HasSoundNames, IsSoundWith, AreSoundTo, AreSoundFrom}
use Rattle.vcd_edit.proofs.shared.TouchedChanges.{stay_fit}
use Rattle.vcd_edit.proofs.exchange.ExchangedPieces.{contents_at, signal_kept, before_all, counts_kept}
use Rattle.vcd_edit.proofs.shared.Lists.{drop_here, both_parts}

-- ==== a splice of a wave is a wave if its changes may follow one another

-- ---- a list in two parts

rise_parts : (floor : ℕ) (before : List Bit) (xs ys : List Change) → AreChangesFrom floor before (xs ++ ys)
    ↔ (AreChangesFrom floor before xs × AreChangesFrom (floor_after floor xs) (last_value before xs) ys)
unfolding floor_after last_value
rise_parts floor before [] ys = ((λ rise. (tt, rise)), (λ both. both.1))
rise_parts floor before (x ∷ xs) ys =
    let parts = rise_parts (x.tick + 1) x.value xs ys in (
      (λ (from, other, wide, rest). let both = parts.0 rest in ((from, other, wide, both.0), both.1)),
      (λ ((from, other, wide, rest), second). (from, other, wide, parts.1 (rest, second))),
    )

upto_parts : (end : ℕ) (xs ys : List Change) → AllUpTo end (xs ++ ys) ↔ (AllUpTo end xs × AllUpTo end ys)
upto_parts end [] ys = ((λ upto. (tt, upto)), (λ both. both.1))
upto_parts end (x ∷ xs) ys =
    let parts = upto_parts end xs ys in (
      (λ (first, rest). let both = parts.0 rest in ((first, both.0), both.1)),
      (λ ((first, rest), second). (first, parts.1 (rest, second))),
    )

-- ---- changes that follow one another

pub follow_tells : (by : ℤ) (end floor : ℕ) (before : List Bit) (cs : List Change) → MayFollow by end floor before cs
    ↔ (AllTicksFit by cs × AreChangesFrom floor before (map (moved_change by) cs)
    × AllUpTo end (map (moved_change by) cs))
unfolding MayFollow moved_change
follow_tells by end floor before [] = ((λ may. (All-nil (TickFits by), tt, tt)), (λ all. tt))
follow_tells by end floor before (c ∷ cs) =
    let rest = follow_tells by end ((moved_change by c).tick + 1) c.value cs in (
      (λ may. let later = rest.0 may.1 in (
        All-cons (TickFits by) c cs may.0.fits later.0,
        (may.0.from, may.0.other, may.0.wide, later.1),
        (may.0.upto, later.2),
      )),
      (λ all. (
        record {
          fits = All-head (TickFits by) c cs all.0;
          from = all.1.0;
          upto = all.2.0;
          other = all.1.1;
          wide = all.1.2;
        },
        rest.1 (All-tail (TickFits by) c cs all.0, all.1.3, all.2.1),
      )),
    )

pub next_tells : (by : ℤ) (end floor : ℕ) (before : List Bit) (c : Change) (next : Option ℕ) → c.value ≢ before
    → length c.value ≡ length before
    → MatchOption next
    (FitsUnsigned w64 (pos c.tick +ℤ by) → floor ≤ unsigned_abs (pos c.tick +ℤ by)
    → unsigned_abs (pos c.tick +ℤ by) ≤ end → ⊥)
    (λ n. FitsUnsigned w64 (pos c.tick +ℤ by) × (floor ≤ unsigned_abs (pos c.tick +ℤ by))
    × (unsigned_abs (pos c.tick +ℤ by) ≤ end) × (n ≡ unsigned_abs (pos c.tick +ℤ by) + 1))
    → MatchOption next (MayComeNext by end floor before c → ⊥)
    (λ n. MayComeNext by end floor before c × (n ≡ (moved_change by c).tick + 1))
unfolding TickFits moved_change
next_tells by end floor before c None other wide told = λ may. told may.fits may.from may.upto
next_tells by end floor before c (Some n) other wide (fits, from, upto, is) =
    (record { fits = fits; from = from; upto = upto; other = other; wide = wide }, is)

-- the tick after a list
pub floor_after-push : (floor : ℕ) (xs : List Change) (c : Change) → floor_after floor (xs ++ c ∷ []) ≡ c.tick + 1
unfolding floor_after
floor_after-push floor [] c = refl
floor_after-push floor (x ∷ xs) c = floor_after-push (x.tick + 1) xs c

pub floor_of_none : (cs : List Change) → length cs ≡ 0 → 0 ≡ floor_after 0 cs
unfolding floor_after
floor_of_none [] none = refl
floor_of_none (c ∷ cs) none = absurd (omega (arith, none))

-- ---- a piece is valid

pub prefix_rises : (width : ℕ) (cs : List Change) (n : ℕ) → IsWave width cs → AreChangesFrom 0 (all_x width) (take n cs)
prefix_rises width cs n is = ((rise_parts 0 (all_x width) (take n cs) (drop n cs)).0
    (subst (AreChangesFrom 0 (all_x width)) (sym (take-append-drop n cs)) is.rise)).0

module _ (width end : ℕ) (cs : List Change) (p : PieceView) (is : IsWave width cs) (small : end ≤ END_LIMIT)
    (ordered : p.from ≤ p.to) (within : p.to ≤ length cs) where
  abbrev prefix : List Change
  prefix = take p.from cs

  abbrev later : List Change
  later = map (moved_change p.by) (drop p.to cs)

  abbrev floor : ℕ
  floor = floor_after 0 prefix

  abbrev value : List Bit
  value = last_value (all_x width) prefix

  -- what the code tests
  pub valid_tells : JoinToWave width end prefix p.changes (drop p.to cs) p.by ↔ IsValidPiece width end cs p
  unfolding spliced_changes
  valid_tells =
      let same = moved_nowhere p.changes in
      let piece = follow_tells (pos 0) end floor value p.changes in
      let rest = follow_tells p.by end (floor_after floor p.changes) (last_value value p.changes) (drop p.to cs) in
      let rise = rise_parts 0 (all_x width) prefix (p.changes ++ later) in
      let rise_later = rise_parts floor value p.changes later in
      let upto_later = upto_parts end (prefix ++ p.changes) later in
      let upto_prefix = upto_parts end prefix p.changes in (
        (λ (upto, at_piece, at_later).
            let first = piece.0 at_piece in
            let second = rest.0 at_later in
            record {
              ordered = ordered;
              within = within;
              ticks = second.0;
              form = record {
                rise = subst (AreChangesFrom 0 (all_x width)) (sym (append_assoc prefix p.changes later))
                    (rise.1 (
                      prefix_rises width cs p.from is,
                      rise_later.1 (subst (AreChangesFrom floor value) same first.1, second.1),
                    ));
              };
              upto = upto_later.1 (upto_prefix.1 (upto, subst (AllUpTo end) same first.2), second.2);
            }),
        (λ stands.
            let parts = rise_later.0 (rise.0
            (subst (AreChangesFrom 0 (all_x width)) (append_assoc prefix p.changes later) stands.form.rise)).1 in
            let last = upto_later.0 stands.upto in
            let first = upto_prefix.0 last.0 in (
              first.0,
              piece.1 (
                stay_fit end p.changes small first.1,
                subst (AreChangesFrom floor value) (sym same) parts.0,
                subst (AllUpTo end) (sym same) first.1,
              ),
              rest.1 (stands.ticks, parts.1, last.1),
            )),
      )

-- whether there is an answer, where one shows P and none shows the opposite
pub some_tells : {X : Type 0} (answer : Option X) (P : Type 0) (R : X → Type 0) (test : Bool) → ((x : X) → R x → P)
    → test ≡ is_some answer → MatchOption answer (P → ⊥) R → IsTrue test ↔ P
some_tells None P R test shows is told = ((λ t. absurd (both_ways test is t)), (λ p. absurd (told p)))
some_tells (Some x) P R test shows is told = ((λ t. shows x told), (λ p. is))

-- a test that fails, which a valid piece would pass
pub refused : (r : Bool) (S : Type 0) → r ≡ false → (S → r ≡ true) → (IsTrue false → S) × (S → IsTrue false)
refused r S fails passes = ((λ t. absurd (false≢true t)), (λ s. absurd (both_ways r fails (passes s))))

-- two tests, one after the other: the first passes, or its failing is the answer
pub both_pass : (a b : Bool) {P Q S : Type 0} → S ↔ (P × Q) → IsTrue a ↔ P → a ≡ true → IsTrue b ↔ Q → IsTrue b ↔ S
both_pass a b tells first passes second =
    ((λ yes. tells.1 (first.0 passes, second.0 yes)), (λ s. second.1 (tells.0 s).1))

pub one_fails : (a : Bool) {P Q S : Type 0} → S ↔ (P × Q) → IsTrue a ↔ P → a ≡ false → IsTrue a ↔ S
one_fails a tells first fails =
    ((λ yes. absurd (both_ways a fails yes)), (λ s. first.1 (tells.0 s).0))

-- ==== which pieces fit a capture, as one pass over them and its signals shows

-- ---- a signal by its names and its changes

sound_names : (end : ℕ) (s : SignalContents) → IsSoundSignal end s → HasSoundNames s
sound_names end s is = assumption

sound_by_parts : (end : ℕ) (s : SignalContents) → HasSoundNames s → IsWave s.width s.changes → AllUpTo end s.changes
    → IsSoundSignal end s
sound_by_parts end s names wave ticks = assumption

pub unmapped : {X Y : Type 0} (P : Y → Type 0) (f : X → Y) (xs : List X) → All P (map f xs) → All (λ x. P (f x)) xs
unmapped P f xs all k d less =
    subst P (get_or-map f xs k d (f d) less) (all k (f d) (omega (arith, less, length-map xs f)))

-- ---- one piece and the signals up to its own

-- the signals before those of the pieces stay
kept_before : (c : Contents) (ps : List PieceView) (k j : ℕ) → k ≤ j → RiseFrom j ps
    → take k (with_pieces c ps).signals ≡ take k c.signals
unfolding with_pieces
kept_before c [] k j le rise = refl
kept_before c (p ∷ ps) k j le (from, rise) =
    kept_before (with_piece c p) ps k (suc p.signal) (omega (arith, le, from)) rise
    ∙ take-set-le k c.signals p.signal _ (omega (arith, le, from))

module _ (end : ℕ) (c : Contents) (p : PieceView) (ps : List PieceView) (k : ℕ) (from : k ≤ p.signal)
    (rise : RiseFrom (suc p.signal) ps) where
  abbrev before : List SignalContents
  before = slice_range c.signals k p.signal

  abbrev here : SignalContents
  here = signal_with_changes (signal_at c p.signal) (changes_with_piece p (signal_at c p.signal).changes)

  abbrev later_signals : List SignalContents
  later_signals = drop (suc p.signal) (with_pieces c ps).signals

  parts_then : p.signal < length c.signals → drop k (with_pieces c (p ∷ ps)).signals ≡ before ++ here ∷ later_signals
  unfolding with_pieces
  parts_then within =
      let d = with_pieces c ps in
      let inside : p.signal < length d.signals = omega (arith, within, counts_kept c ps) in
      let long = length-take-le p.signal d.signals (omega (arith, inside)) in
      ap (λ (d : Contents). drop k d.signals) (sym (before_all c p ps (suc p.signal) (omega arith) rise))
      ∙ ap (λ (s : SignalContents). drop k (set d.signals p.signal
      (signal_with_changes s (changes_with_piece p s.changes))))
      (signal_kept c ps p.signal (suc p.signal) (omega arith) rise)
      ∙ ap (drop k) (set_split d.signals p.signal here inside)
      ∙ drop-append-le k (take p.signal d.signals) (here ∷ later_signals) (omega (arith, from, long))
      ∙ ap (λ l. l ++ here ∷ later_signals) (ap (drop k) (kept_before c ps p.signal (suc p.signal) (omega arith) rise)
      ∙ ap (λ n. drop k (take n c.signals)) {x = p.signal} {y = k + (p.signal - k)} (omega (arith, from))
      ∙ drop-take k (p.signal - k) c.signals)

  pub one_piece : AreSoundFrom end c k (p ∷ ps) ↔ (AreSoundTo end c.signals k p × AreSoundFrom end c (suc p.signal) ps)
  one_piece = (
    (λ (fit, all).
        let fits : PieceFits c p = All-head (PieceFits c) p ps fit in
        let parts = (both_parts (IsSoundSignal end) before (here ∷ later_signals)).0
        (subst (All (IsSoundSignal end)) (parts_then fits.signal) all) in
        let sound : IsSoundSignal end here = All-head (IsSoundSignal end) here later_signals parts.1 in
        let valid : IsValidPiece (signal_at c p.signal).width end (signal_at c p.signal).changes p = record {
          ordered = fits.ordered;
          within = fits.within;
          ticks = fits.ticks;
          form = sound.wave;
          upto = sound.ticks;
        } in (
          (fits.signal, (sound_names end here sound, valid), parts.0),
          (All-tail (PieceFits c) p ps fit, All-tail (IsSoundSignal end) here later_signals parts.1),
        )),
    (λ ((within, (names, valid), prefix), (fit, rest)). (
      All-cons (PieceFits c) p ps
          (record { signal = within; ordered = valid.ordered; within = valid.within; ticks = valid.ticks }) fit,
      subst (All (IsSoundSignal end)) (sym (parts_then within))
          (All-append (IsSoundSignal end) before (here ∷ later_signals) prefix
          (All-cons (IsSoundSignal end) here later_signals (sound_by_parts end here names valid.form valid.upto) rest)),
    )),
  )

-- the tests of the code
pub to_tells : (end : ℕ) (signals : List Signal) (k : ℕ) (p : PieceView) (s : Signal) → p.signal < length signals
    → s ≡ get_or signals p.signal s → AreSoundTo end (map signal_contents signals) k p
    ↔ (IsSoundWith end (signal_contents s) p
    × All (IsSoundSignal end) (map signal_contents (take (p.signal - k) (drop k signals))))
to_tells end signals k p s within is =
    let at = contents_at signals p.signal s within is in
    let range : slice_range (map signal_contents signals) k p.signal
    ≡ map signal_contents (take (p.signal - k) (drop k signals)) =
    ap (take (p.signal - k)) (drop-map signal_contents k signals)
    ∙ take-map signal_contents (p.signal - k) (drop k signals) in
    subst (λ (t : Type 0). t) (λ i. AreSoundTo end (map signal_contents signals) k p
    ↔ (IsSoundWith end (at i) p × All (IsSoundSignal end) (range i))) (
      (λ to. (to.1, to.2)),
      (λ tests. (omega (arith, within, length-map signals signal_contents), tests.0, tests.1)),
    )

-- ---- one pass over the pieces

module _ (pieces : List Piece) (i k : ℕ) where
  abbrev left : List PieceView
  left = map piece_view (drop i pieces)

  -- one more piece
  module _ (x : Piece) (within : i < length pieces) (is : x ≡ get_or pieces i x) (rise : RiseFrom k left) where
    abbrev rest : List PieceView
    rest = map piece_view (drop (i + 1) pieces)

    begins : left ≡ piece_view x ∷ rest
    begins = ap (map piece_view) (drop_here pieces i x within is)

    pub next_rises : (k ≤ x.signal) × RiseFrom (x.signal + 1) rest
    next_rises = subst (λ n. (k ≤ x.signal) × RiseFrom n rest) (sym (add-one x.signal)) (subst (RiseFrom k) begins rise)

    pub next_piece_tells : (end : ℕ) (c : Contents) (ss : List SignalContents) → c.signals ≡ ss
        → AreSoundFrom end c k left ↔ (AreSoundTo end ss k (piece_view x) × AreSoundFrom end c (x.signal + 1) rest)
    next_piece_tells end c ss same =
        let both = subst (RiseFrom k) begins rise in
        subst (λ (t : Type 0). t) (λ j. AreSoundFrom end c k (sym begins j)
        ↔ (AreSoundTo end (same j) k (piece_view x) × AreSoundFrom end c (sym (add-one x.signal) j) rest))
        (one_piece end c (piece_view x) rest k both.0 both.1)

  -- no piece is left
  pub last_tells : (end : ℕ) (c : Contents) (signals : List Signal) → c.signals ≡ map signal_contents signals
      → length pieces ≤ i → All (IsSoundSignal end) (map signal_contents (take (length signals - k) (drop k signals)))
      ↔ AreSoundFrom end c k left
  unfolding with_pieces
  last_tells end c signals same done =
      let is : map signal_contents (take (length signals - k) (drop k signals)) ≡ drop k c.signals =
      ap (map signal_contents) (take_rest signals k) ∙ sym (ap (drop k) same ∙ drop-map signal_contents k signals) in
      subst (λ (t : Type 0). t) (λ j. All (IsSoundSignal end) (sym is j)
      ↔ AreSoundFrom end c k (map piece_view (sym (drop_all i pieces done) j)))
      ((λ all. (All-nil (PieceFits c), all)), (λ fit. fit.1))
