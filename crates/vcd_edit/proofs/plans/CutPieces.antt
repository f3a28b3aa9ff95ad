-- The pieces of a cut: that of one wave, those of all signals, and the plan that they make.
use Rattle.std.proofs.Common.{◌≡◌, ℕ, suc, ◌+◌, ◌-◌, ◌^◌, ◌<◌, ◌≤◌, nat_lt, cond, if◌then◌else◌, ℤ, pos, ◌+ℤ◌, List, []}
use Rattle.std.proofs.Common.{◌++◌, length, get_or, All, inl, inr, refl, sym, ap, ◌∙◌, arith, ◌∷◌, map, take, drop, set}
use Rattle.std.proofs.Common.{subst, Some, None}
use Rattle.std.specs.List.{count_by, remove}
use Rattle.std.proofs.lemmas.Bool.{cases_lt, lt-ltb, le-ltb}
use Rattle.std.proofs.lemmas.List.Sums.{sum_by-remove, count_by-le-length}
use Rattle.std.proofs.lemmas.List.Edits.{length-remove, map_over_more}
use Rattle.std.proofs.lemmas.List.{get_or_default, set-get_or, length-map, length-take-le, get_or-append_right}
use Rattle.std.proofs.lemmas.List.{get_or-drop, take_all, drop_all, append-nil, map-append}
use Rattle.std.proofs.lemmas.List.Elements.{All-nil, All-push, All-head, All-tail}
use Rattle.std.specs.Prelude.{neg_ℤ}
use Rattle.std.proofs.lemmas.Int.{ints}
use Rattle.vcd_core.specs.declared.wave.Change.{Change}
use Rattle.vcd_core.specs.Value.{all_x, same_letters}
use Rattle.vcd_core.specs.Wave.{change, unless_same, IsWave, AllUpTo}
use Rattle.vcd_core.specs.WavePush.{last_value}
use Rattle.vcd_core.specs.Contents.{SignalContents, signal_value, Contents, no_signal, signal_at}
use Rattle.vcd_core.proofs.shared.Waves.{wave_is, value_last}
use Rattle.vcd_core.proofs.shared.Pushes.{upto_from_all}
use Rattle.vcd_core.specs.declared.bit.Bit.{Bit}
use Rattle.vcd_core.specs.declared.capture.Signal.{Signal}
use Rattle.vcd_core.specs.CaptureContents.{signal_contents}
use Rattle.vcd_core.specs.Sound.{IsSound, IsSoundSignal}
use Rattle.vcd_edit.specs.RecordView.{PieceView}
use Rattle.vcd_edit.specs.Effect.{cut_value, signal_after_cut, with_values, effect}
use Rattle.vcd_edit.specs.inside.plans.Ranges.{value_just_before, changes_in, GivesChanges}
use Rattle.vcd_edit.specs.AppliedRecords.{changes_with_piece, signal_with_changes, with_piece, with_pieces, PieceFits}
use Rattle.vcd_edit.specs.AppliedRecords.{RiseFrom, apply_record, IsOfOneKind}
use Rattle.vcd_edit.specs.inside.plans.Plan.{PiecesForEach, IsPlan, GivesValues}
use Rattle.vcd_edit.specs.declared.edit.Edit.TheVariants.{Cut}
use Rattle.vcd_edit.specs.declared.record.Piece.{Piece}
use Rattle.vcd_edit.specs.EditFaults.{edit_fault}
use Rattle.vcd_edit.specs.Records.{piece_view}
use Rattle.vcd_edit.proofs.plans.Ranges.{changes_in-constant, replacement_leads, same_before}
use Rattle.vcd_edit.proofs.exchange.ExchangedPieces.{fits_there, with_pieces-push, contents_at}
use Rattle.vcd_edit.proofs.checking.Faults.{no_fault, range_within}
use Rattle.vcd_edit.proofs.shared.SoundEffects.{sound_at}
use Rattle.vcd_edit.proofs.exchange.ExchangedRecords.{parts}
use Rattle.vcd_edit.proofs.plans.EffectOfRecord.{is_plan}

-- ==== the piece of a wave from which a range of ticks is cut out

-- all are counted
pub all_counted : (a : ℕ) (cs : List Change) → count_by (λ c. nat_lt c.tick a) cs ≡ length cs → All (λ c. c.tick < a) cs
all_counted a cs counted = λ k d less.
    elim (cases_lt (get_or cs k d).tick a) [
      | inl early ↦ early
      | inr late ↦ absurd (omega (
        arith,
        sum_by-remove (λ (c : Change). cond (nat_lt c.tick a) 1 0) cs k d less,
        count_by-le-length (λ (c : Change). nat_lt c.tick a) (remove cs k),
        length-remove cs k less,
        counted,
        ap {B = ℕ} (λ q. cond q 1 0) (le-ltb (get_or cs k d).tick a late),
      ))
    ]

module _ (a b : ℕ) (s : SignalContents) where
  pub before_cut : (t : ℕ) → t < a → cut_value a b s t ≡ signal_value s t
  before_cut t early = ap (λ q. if q then signal_value s t else signal_value s (t + (b - a))) (lt-ltb t a early)

  pub after_cut : (t u : ℕ) → a ≤ t → u ≡ t + (b - a) → cut_value a b s t ≡ signal_value s u
  after_cut t u late is =
      ap (λ q. if q then signal_value s t else signal_value s (t + (b - a))) (le-ltb t a late)
      ∙ ap (signal_value s) (sym is)

module _ (a b end stop : ℕ) (s : SignalContents) (is : IsWave s.width s.changes) (upto : AllUpTo end s.changes)
    (some : a < b) (long : end ≤ stop + (b - a)) (there : a ≤ stop) (small : stop < 2 ^ 64) where
  seam : changes_in s.width (cut_value a b s) a 1
      ≡ unless_same (same_letters (signal_value s b) (value_just_before s.width (signal_value s) a))
      (change a (signal_value s b)) []
  seam =
      changes_in-constant s.width (cut_value a b s) (signal_value s b) a 1 (omega arith)
      (λ t from to. after_cut a b s t b from (omega arith))
      ∙ ap (λ w. unless_same (same_letters (signal_value s b) w) (change a (signal_value s b)) [])
      (same_before s.width (cut_value a b s) (signal_value s) a (before_cut a b s))

  -- at most one change replaces those at the ticks cut out and at the tick after them
  pub cut_leads : (p : PieceView) (by : ℤ) → pos (b + 1) +ℤ by ≡ pos (a + 1)
      → p.from ≡ count_by (λ c. nat_lt c.tick a) s.changes
      → p.to ≡ count_by (λ c. nat_lt c.tick (b + 1)) s.changes → p.by ≡ by
      → p.changes ≡ [] ++ unless_same (same_letters (signal_value s b) (value_just_before s.width (signal_value s) a))
      (change a (signal_value s b)) [] → GivesChanges p s.changes s.width stop (cut_value a b s)
  cut_leads p by later from to is_by told =
      replacement_leads s.width end s.changes is upto a (b + 1) 1 (stop - a) stop by (cut_value a b s) p
      (omega arith) (omega arith) from to later is_by (omega arith) small (before_cut a b s)
      (λ i less. after_cut a b s (a + 1 + i) (b + 1 + i) (omega arith) (omega arith))
      (λ less. ap (value_just_before s.width (cut_value a b s)) {x = a + 1} {y = suc a} (omega arith)
      ∙ after_cut a b s a b (omega arith) (omega arith)
      ∙ sym (ap (value_just_before s.width (signal_value s)) {x = b + 1} {y = suc b} (omega arith)))
      (told ∙ sym seam)

-- a wave with no change at or after the first tick cut out stays as it is
pub quiet_cut : (a b stop : ℕ) (s : SignalContents) → IsWave s.width s.changes → a ≤ stop
    → All (λ c. c.tick < a) s.changes → signal_after_cut stop a b s ≡ s
quiet_cut a b stop s is there early =
    ap (λ (cs : List Change). record s { changes = cs })
    (sym (wave_is s.width stop s.changes (cut_value a b s) is upto same))
  where
    upto : AllUpTo stop s.changes
    upto = upto_from_all stop s.changes (λ k d within. omega (arith, early k d within, there))

    last : (t : ℕ) → a ≤ t + 1 → signal_value s t ≡ last_value (all_x s.width) s.changes
    last t late = value_last (all_x s.width) s.changes t t
        (upto_from_all t s.changes (λ k d within. omega (arith, early k d within, late))) (omega arith)

    same : (t : ℕ) → t ≤ stop → signal_value s t ≡ cut_value a b s t
    same t to =
        elim (cases_lt t a) [
          | inl before ↦ sym (before_cut a b s t before)
          | inr late ↦ last t (omega arith) ∙ sym (last (t + (b - a)) (omega arith))
              ∙ sym (after_cut a b s t _ late refl)
        ]

-- ==== pieces for several signals, one after another

-- pieces for signals below a position, and one for the signal there
rise_more : (ps : List PieceView) (p : PieceView) (j : ℕ) → j ≤ p.signal → RiseFrom j ps
    → All (λ q. q.signal < p.signal) ps → RiseFrom j (ps ++ p ∷ [])
rise_more [] p j from rise below = (from, tt)
rise_more (q ∷ ps) p j from (first, rise) below = (
  first,
  rise_more ps p (suc q.signal) (All-head (λ (q : PieceView). q.signal < p.signal) q ps below) rise
      (All-tail (λ (q : PieceView). q.signal < p.signal) q ps below),
)

-- an element that has not been reached
pub element_here : {X : Type 0} (f : X → X) (xs ys : List X) (i : ℕ) (d : X) → i < length xs
    → ys ≡ map f (take i xs) ++ drop i xs → get_or ys i d ≡ get_or xs i d
element_here f xs ys i d within is =
    ap (λ l. get_or l i d) is ∙ get_or-append_right (map f (take i xs)) (drop i xs) i i d (length-map (take i xs) f
    ∙ length-take-le i xs (omega arith)) (omega arith) ∙ get_or-drop i xs (i - i) d
    ∙ ap (λ k. get_or xs k d) {x = i + (i - i)} {y = i} (omega arith)

module _ (c : Contents) (g : SignalContents → SignalContents) (n : ℕ) (by : ℤ) (ps : List PieceView)
    (lead : PiecesForEach c by g n ps) (within : n < length c.signals) where
  abbrev reached : List SignalContents
  reached = map g (take n c.signals) ++ drop n c.signals

  here : get_or reached n no_signal ≡ signal_at c n
  here = element_here g c.signals reached n no_signal within refl

  more : set reached n (g (signal_at c n)) ≡ map g (take (n + 1) c.signals) ++ drop (n + 1) c.signals
  more = map_over_more g c.signals reached n (signal_at c n) within refl
      (get_or_default c.signals n no_signal (signal_at c n) within
      ∙ sym (element_here g c.signals reached n (signal_at c n) within refl))

  still_below : All (λ (p : PieceView). p.signal < n + 1) ps
  still_below = λ k d less. omega (arith, lead.below k d less)

  -- a signal that stays as it is needs no piece
  pub lead_without : (s : SignalContents) → signal_at c n ≡ s → g s ≡ s → PiecesForEach c by g (n + 1) ps
  lead_without s is same =
      let unchanged : set reached n (g (signal_at c n)) ≡ reached =
      ap (set reached n) (ap g is ∙ same ∙ sym is ∙ sym here) ∙ set-get_or reached n no_signal in
      assumption (
        lead.leads ∙ ap (λ (ss : List SignalContents). record c { signals = ss }) (sym unchanged ∙ more),
        still_below,
      )

  -- a signal with a piece
  pub lead_with : (s : SignalContents) (p : PieceView) (end : ℕ) (f : ℕ → List Bit) → signal_at c n ≡ s → p.signal ≡ n
      → g s ≡ with_values end f s → GivesChanges p s.changes s.width end f → p.by ≡ by
      → PiecesForEach c by g (n + 1) (ps ++ p ∷ [])
  lead_with s p end f is at_n given gives offset = record {
    leads = with_pieces-push c ps p ∙ ap (λ (d : Contents). with_piece d p) lead.leads
        ∙ ap (λ (ss : List SignalContents). record c { signals = ss }) (written ∙ more);
    fit = All-push (PieceFits c) ps p lead.fit (fits_there c p s (omega (arith, at_n, within))
        (ap (λ (k : ℕ). signal_at c k) at_n ∙ is) gives.ordered gives.within gives.ticks);
    below = All-push (λ (q : PieceView). q.signal < n + 1) ps p still_below (omega (arith, at_n));
    rise = rise_more ps p 0 (omega arith) lead.rise (λ k d less. omega (arith, lead.below k d less, at_n));
    offset = All-push (λ (q : PieceView). q.by ≡ by) ps p lead.offset offset;
  }
    where
      written : set reached p.signal
          (signal_with_changes (get_or reached p.signal no_signal)
          (changes_with_piece p (get_or reached p.signal no_signal).changes)) ≡ set reached n (g (signal_at c n))
      written =
          ap (λ (k : ℕ). set reached k
          (signal_with_changes (get_or reached k no_signal)
          (changes_with_piece p (get_or reached k no_signal).changes))) at_n
          ∙ ap (λ (s : SignalContents). set reached n (signal_with_changes s (changes_with_piece p s.changes))) (here
          ∙ is) ∙ ap (λ (cs : List Change). set reached n (signal_with_changes s cs)) gives.is
          ∙ ap (set reached n) (sym given ∙ ap g (sym is))

-- no signal yet
pub lead_none : (c : Contents) (by : ℤ) (g : SignalContents → SignalContents) (ps : List PieceView) → ps ≡ []
    → PiecesForEach c by g 0 ps
unfolding with_pieces
lead_none c by g ps empty =
    subst (PiecesForEach c by g 0) (sym empty)
    (record {
      leads = refl;
      fit = All-nil (PieceFits c);
      below = All-nil (λ (p : PieceView). p.signal < 0);
      rise = tt;
      offset = All-nil (λ (p : PieceView). p.by ≡ by);
    })

-- all signals
pub lead_all : (c : Contents) (by : ℤ) (g : SignalContents → SignalContents) (ps : List PieceView)
    → PiecesForEach c by g (length c.signals) ps → with_pieces c ps ≡ record c { signals = map g c.signals }
lead_all c by g ps lead =
    lead.leads ∙ ap (λ (ss : List SignalContents). record c { signals = ss })
    ((λ i. map g (take_all (length c.signals) c.signals (omega arith) i)
    ++ drop_all (length c.signals) c.signals (omega arith) i) ∙ append-nil (map g c.signals))

-- ==== the pieces of a cut, signal by signal, and the plan that they make

-- the ticks of a cut
pub cut_ticks : (from to : ℕ) (c : Contents) → edit_fault (Cut from to) c ≡ None → (from < to) × (to ≤ c.end)
cut_ticks from to c none = range_within from to c.end (no_fault (Cut from to) c none).0

module _ (c : Contents) (signals : List Signal) (are : c.signals ≡ map signal_contents signals) (sound : IsSound c)
    (from to : ℕ) (some : from < to) (ends : to ≤ c.end) (n : ℕ) (s : Signal) (within : n < length signals)
    (at : s ≡ get_or signals n s) (ps : List Piece) where
  abbrev stop : ℕ
  stop = c.end - (to - from)

  within_c : n < length c.signals
  within_c = omega (arith, within, ap length are, length-map signals signal_contents)

  signal_here : signal_at c n ≡ signal_contents s
  signal_here = ap (λ (ss : List SignalContents). get_or ss n no_signal) are ∙ contents_at signals n s within at

  sound_here : IsSoundSignal c.end (signal_contents s)
  sound_here = subst (IsSoundSignal c.end) signal_here (sound_at c n within_c sound)

  pub cut_without : All (λ c. c.tick < from) s.wave.changes
      → PiecesForEach c (neg_ℤ (pos (to - from))) (signal_after_cut stop from to) n (map piece_view ps)
      → PiecesForEach c (neg_ℤ (pos (to - from))) (signal_after_cut stop from to) (n + 1) (map piece_view ps)
  cut_without quiet lead =
      lead_without c (signal_after_cut stop from to) n (neg_ℤ (pos (to - from))) (map piece_view ps) lead within_c
      (signal_contents s) signal_here
      (quiet_cut from to stop (signal_contents s) sound_here.wave (omega (arith, some, ends)) quiet)

  pub cut_with : (p : Piece) (more : List Piece)
      → ((end stop : ℕ) → IsSoundSignal end (signal_contents s) → end ≤ stop + (to - from) → from ≤ stop → stop < 2 ^ 64
      → GivesValues n (signal_contents s) stop (neg_ℤ (pos (to - from))) (cut_value from to (signal_contents s)) p)
      → more ≡ ps ++ p ∷ []
      → PiecesForEach c (neg_ℤ (pos (to - from))) (signal_after_cut stop from to) n (map piece_view ps)
      → PiecesForEach c (neg_ℤ (pos (to - from))) (signal_after_cut stop from to) (n + 1) (map piece_view more)
  cut_with p more gives is lead =
      let piece = gives c.end stop sound_here (omega (arith, some, ends)) (omega (arith, some, ends))
      (omega (arith, sound.end)) in
      subst (PiecesForEach c (neg_ℤ (pos (to - from))) (signal_after_cut stop from to) (n + 1))
      (sym (ap (map piece_view) is ∙ map-append piece_view ps (p ∷ [])))
      (lead_with c (signal_after_cut stop from to) n (neg_ℤ (pos (to - from))) (map piece_view ps) lead within_c
      (signal_contents s) (piece_view p) stop (cut_value from to (signal_contents s)) signal_here piece.signal refl
      piece.leads piece.offset)

-- the pieces of all signals, and the end
pub cut_plan : (c : Contents) (from to : ℕ) (ps : List PieceView) → IsSound c → edit_fault (Cut from to) c ≡ None
    → PiecesForEach c (neg_ℤ (pos (to - from))) (signal_after_cut (c.end - (to - from)) from to) (length c.signals) ps
    → IsPlan (Cut from to) c (parts ps None None (Some (c.end - (to - from))))
unfolding apply_record effect
cut_plan c from to ps sound none lead =
    is_plan (Cut from to) c (parts ps None None (Some (c.end - (to - from))))
    sound none
    (ap (λ (d : Contents). record d { end = c.end - (to - from) })
    (lead_all c (neg_ℤ (pos (to - from))) (signal_after_cut (c.end - (to - from)) from to) ps lead))
    lead.fit tt tt
    (λ k d less. let some = (cut_ticks from to c none).0 in omega (arith, ints, some, lead.offset k d less)) refl

-- all signals have been reached
pub cut_end : (c : Contents) (signals : List Signal) → c.signals ≡ map signal_contents signals
    → (from to n : ℕ) (ps : List PieceView) → n ≡ length signals
    → PiecesForEach c (neg_ℤ (pos (to - from))) (signal_after_cut (c.end - (to - from)) from to) n ps
    → PiecesForEach c (neg_ℤ (pos (to - from))) (signal_after_cut (c.end - (to - from)) from to) (length c.signals) ps
cut_end c signals are from to n ps all lead =
    subst (λ (n : ℕ). PiecesForEach c (neg_ℤ (pos (to - from))) (signal_after_cut (c.end - (to - from)) from to) n ps)
    (all ∙ sym (ap length are ∙ length-map signals signal_contents)) lead

-- such pieces are the only part of the record except the end
pub cut_is_one_step : (c : Contents) (by : ℤ) (g : SignalContents → SignalContents) (n : ℕ) (ps : List PieceView)
    (end : ℕ) → PiecesForEach c by g n ps → IsOfOneKind (parts ps None None (Some end))
cut_is_one_step c by g n ps end lead =
    record { rise = lead.rise; word_alone = λ other. absurd (other refl); signal_alone = λ other. absurd (other refl) }
