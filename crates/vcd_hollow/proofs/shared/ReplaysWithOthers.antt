-- Replays on captures with other waves.
use Rattle.std.proofs.Common.{◌≡◌, ◌≤◌, ℕ, zero, suc, ◌+◌, ◌-◌, if◌then◌else◌, nat_lt, List, [], ◌∷◌, length, map}
use Rattle.std.proofs.Common.{get_or, Some, None, refl, sym, ap, ◌∙◌, arith}
use Rattle.std.specs.Prelude.{option_map}
use Rattle.std.specs.List.{range_with_len}
use Rattle.std.proofs.lemmas.List.{length-map}
use Rattle.vcd_core.specs.declared.wave.Change.{Change}
use Rattle.vcd_core.specs.Wave.{value_at, changes_of}
use Rattle.vcd_core.specs.Contents.{Contents, SignalContents, signal_at}
use Rattle.vcd_core.proofs.shared.Outlines.{map-remove}
use Rattle.vcd_edit.specs.declared.edit.Edit.{Edit}
use Rattle.vcd_edit.specs.declared.edit.Edit.TheVariants.{Remove, Cut}
use Rattle.vcd_edit.specs.Effect.{signal_after_cut, effect}
use Rattle.vcd_hollow.specs.OtherWaves.{OtherChanges, with_others, HaveOwn, other_after_cut, others_after_cut}
use Rattle.vcd_hollow.specs.OtherWaves.{others_after}
use Rattle.vcd_hollow.proofs.shared.Outlines.{effect_keeps_outlines}
use Rattle.vcd_hollow.proofs.shared.EditsWithOthers.{effect_with_others}
use Rattle.vcd_journal.specs.History.{replay}
use Rattle.vcd_hollow.specs.Origins.{origins}
use Rattle.vcd_core.specs.SignalOrigins.{ComeFrom}
use Rattle.vcd_hollow.specs.Hollow.{ReadOwn, ReplayKeepsOutlines}
use Rattle.vcd_hollow.proofs.shared.Origins.{origins_fit, signals_come_from_origins}
use Rattle.vcd_hollow.proofs.shared.Cuts.{end_after_cuts, signal_after_cuts, width_is, end_is}

-- ---- outlines

pub replay_keeps_outlines : ReplayKeepsOutlines
unfolding replay
replay_keeps_outlines c d [] same = same
replay_keeps_outlines c d (e ∷ es) same =
    effect_keeps_outlines e (replay c es) (replay d es) (replay_keeps_outlines c d es same)

-- ---- signals with their own changes

module _ (f g : ℕ → OtherChanges) (each : (k : ℕ) → f k ≡ None → g k ≡ None) where
  own_at : (ks : List ℕ) (k : ℕ) → get_or (map f ks) k None ≡ None → get_or (map g ks) k None ≡ None
  own_at [] k own = refl
  own_at (j ∷ ks) zero own = each j own
  own_at (j ∷ ks) (suc k) own = own_at ks k own

  pub have_own : (ks reads : List ℕ) → HaveOwn (map f ks) reads → HaveOwn (map g ks) reads
  have_own ks [] own = tt
  have_own ks (k ∷ reads) own = (own_at ks k own.0, have_own ks reads own.1)

  pub read_own : (count : ℕ) (es : List Edit) → ReadOwn f count es → ReadOwn g count es
  unfolding ReadOwn
  read_own count [] own = tt
  read_own count (e ∷ es) own = (have_own (origins count es) _ own.0, read_own count es own.1)

-- ---- what cuts make of other changes

-- those of one signal
abbrev pub after_cuts : (end : ℕ) → List Edit → SignalContents → OtherChanges → OtherChanges
after_cuts end es r = option_map (λ changes. (signal_after_cuts end es (record r { changes = changes })).changes)

no_cut : (end : ℕ) (r : SignalContents) (other : OtherChanges) → after_cuts end [] r other ≡ other
unfolding signal_after_cuts
no_cut end r None = refl
no_cut end r (Some changes) = refl

-- a cut asks for the width and the changes of a signal
cut_changes : (end from to : ℕ) (s r : SignalContents) → s.width ≡ r.width
    → (signal_after_cut end from to (record s { changes = r.changes })).changes
    ≡ (signal_after_cut end from to r).changes
cut_changes end from to s r wide = λ i. changes_of (wide i) end (λ t.
    if nat_lt t from then value_at (wide i) r.changes t else value_at (wide i) r.changes (t + (to - from)))

one_more : (end : ℕ) (es : List Edit) (from to : ℕ) (s r : SignalContents) (other : OtherChanges)
    → s.width ≡ r.width
    → other_after_cut (end_after_cuts end es - (to - from)) from to (after_cuts end es r other) s
    ≡ after_cuts end (Cut from to ∷ es) r other
unfolding signal_after_cuts
one_more end es from to s r None wide = refl
one_more end es from to s r (Some changes) wide =
    let t : SignalContents = record r { changes = changes } in
    ap (λ (cs : List Change). Some cs)
    (cut_changes (end_after_cuts end es - (to - from)) from to s (signal_after_cuts end es t)
    (wide ∙ sym (width_is end es t)))

-- ---- replays

module _ (other : ℕ → OtherChanges) (c : Contents) where
  abbrev count : ℕ
  count = length c.signals

  abbrev left : List Edit → ℕ → OtherChanges
  left es k = after_cuts c.end es (signal_at c k) (other k)

  cut_list : (es : List Edit) (from to : ℕ) (ks : List ℕ) (ss : List SignalContents) → ComeFrom c ks ss
      → others_after_cut (end_after_cuts c.end es - (to - from)) from to (map (left es) ks) ss
      ≡ map (left (Cut from to ∷ es)) ks
  cut_list es from to [] ss come = refl
  cut_list es from to (k ∷ ks) [] come = absurd come
  cut_list es from to (k ∷ ks) (s ∷ ss) come = λ i.
      one_more c.end es from to s (signal_at c k) (other k) come.0.2 i ∷ cut_list es from to ks ss come.1 i

  left_after : (e : Edit) (es : List Edit)
      → others_after e (replay c es) (map (left es) (origins count es)) ≡ map (left (e ∷ es)) (origins count (e ∷ es))
  unfolding origins signal_after_cuts
  left_after (Remove k) es = sym (map-remove (left es) (origins count es) k)
  left_after (Cut from to) es =
      ap (λ end. others_after_cut (end - (to - from)) from to (map (left es) (origins count es)) (replay c es).signals)
      (end_is c es)
      ∙ cut_list es from to (origins count es) (replay c es).signals (signals_come_from_origins c es)
  left_after e es = refl

  -- edits that read none of the other waves make the same of the capture with them, and cuts alone change these
  pub replay_same : (es : List Edit) → ReadOwn other count es
      → replay (with_others (map other (range_with_len 0 count)) c) es
      ≡ with_others (map (left es) (origins count es)) (replay c es)
  unfolding replay origins ReadOwn
  replay_same [] own = λ i.
      with_others (map (λ k. sym (no_cut c.end (signal_at c k) (other k)) i) (range_with_len 0 count)) c
  replay_same (e ∷ es) own =
      let fits : length (map (left es) (origins count es)) ≤ length (replay c es).signals =
      omega (arith, length-map (origins count es) (left es), origins_fit c es) in
      let reads = have_own other (left es)
      (λ k. ap (λ (o : OtherChanges). after_cuts c.end es (signal_at c k) o)) (origins count es) _ own.0 in
      ap (effect e) (replay_same es own.1)
      ∙ effect_with_others e (map (left es) (origins count es)) (replay c es) fits reads
      ∙ ap (λ (os : List OtherChanges). with_others os (effect e (replay c es))) (left_after e es)
