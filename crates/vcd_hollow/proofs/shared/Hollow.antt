-- Replays on captures that lack the waves of silent signals.
use Rattle.std.proofs.Common.{◌≡◌, ℕ, ◌+◌, Bool, true, false, if◌then◌else◌, List, [], ◌∷◌, ◌++◌, length, map, get_or}
use Rattle.std.proofs.Common.{Some, None, refl, sym, ap, subst, ◌∙◌}
use Rattle.std.specs.List.{AllByRecursion, range_with_len}
use Rattle.std.proofs.lemmas.List.{append_assoc, get_or_at, length-append}
use Rattle.std.proofs.lemmas.List.Elements.{recursion_from_All, All-from_recursion}
use Rattle.vcd_core.specs.declared.wave.Change.{Change}
use Rattle.vcd_core.specs.Contents.{Contents, SignalContents, no_signal, signal_at}
use Rattle.vcd_core.specs.Outline.{outline}
use Rattle.vcd_core.specs.Sound.{IsSoundSignal}
use Rattle.vcd_core.proofs.shared.Outlines.{at_outline, sound_without}
use Rattle.vcd_edit.specs.declared.edit.Edit.{Edit}
use Rattle.vcd_hollow.specs.OtherWaves.{OtherChanges, with_other, signals_with_others, with_others}
use Rattle.vcd_hollow.proofs.shared.EditsWithOthers.{count_with_others, others_keep_outline}
use Rattle.vcd_journal.specs.History.{replay}
use Rattle.vcd_hollow.specs.Origins.{origins}
use Rattle.vcd_hollow.specs.Cuts.{cuts}
use Rattle.vcd_hollow.specs.Hollow.{ReadOwn, emptied, filled, hollow, ReplayOnHollow, SilentAreCutAlone, HollowIsSound}
use Rattle.vcd_hollow.proofs.shared.Cuts.{signal_after_cuts, cuts_of_none, signal_after_cuts_is}
use Rattle.vcd_hollow.proofs.shared.ReplaysWithOthers.{after_cuts, read_own, replay_same}

-- no change in place of its own
abbrev no_change : OtherChanges
no_change = Some []

-- ---- the hollow capture

-- cuts leave a signal without changes so
emptied_stays : (end : ℕ) (es : List Edit) (r : SignalContents) (silent : Bool)
    → after_cuts end es r (if silent then no_change else None) ≡ (if silent then no_change else None)
emptied_stays end es r true =
    ap (λ (s : SignalContents). Some s.changes) (cuts_of_none end es r)
emptied_stays end es r false = refl

pub replay_on_hollow : ReplayOnHollow
replay_on_hollow silent c es own =
    replay_same (emptied silent) c es own
    ∙ λ i. with_others
    (map (λ k. emptied_stays c.end es (signal_at c k) (silent k) i) (origins (length c.signals) es))
    (replay c es)

-- ---- the whole capture again

-- a signal that was emptied has its changes again
filled_again : (b : Bool) (s r : SignalContents) → r ≡ s
    → with_other (if b then Some r.changes else None) (with_other (if b then no_change else None) s) ≡ s
filled_again true s r is = ap (λ (t : SignalContents). record s { changes = t.changes }) is
filled_again false s r is = refl

not_emptied : (b : Bool) (changes : List Change) → (if b then no_change else None) ≡ None
    → (if b then Some changes else None) ≡ None
not_emptied true changes none = absurd (cc)
not_emptied false changes none = refl

module _ (silent : ℕ → Bool) (c : Contents) where
  abbrev d : Contents
  d = hollow silent c

  abbrev count : ℕ
  count = length c.signals

  pub hollow_outline : outline d ≡ outline c
  hollow_outline = others_keep_outline (map (emptied silent) (range_with_len 0 count)) c

  same_count : length d.signals ≡ count
  same_count = count_with_others (map (emptied silent) (range_with_len 0 count)) c.signals

  all_again : (before ss : List SignalContents) → c.signals ≡ before ++ ss
      → signals_with_others (map (filled silent c) (range_with_len (length before) (length ss)))
      (signals_with_others (map (emptied silent) (range_with_len (length before) (length ss))) ss) ≡ ss
  all_again before [] is = refl
  all_again before (s ∷ ss) is =
      let here : signal_at c (length before) ≡ s =
      ap (λ (all : List SignalContents). get_or all (length before) no_signal) is
      ∙ get_or_at before s ss no_signal (length before) refl in
      let again : ℕ → List SignalContents = λ n.
      signals_with_others (map (filled silent c) (range_with_len n (length ss)))
      (signals_with_others (map (emptied silent) (range_with_len n (length ss))) ss) in
      let rest : again (length before + 1) ≡ ss =
      ap again (sym (length-append before (s ∷ [])))
      ∙ all_again (before ++ s ∷ []) ss (is ∙ sym (append_assoc before (s ∷ []) ss)) in
      λ i. filled_again (silent (length before)) s (signal_at c (length before)) here i ∷ rest i

  whole_again : with_others (map (filled silent c) (range_with_len 0 (length d.signals))) d ≡ c
  whole_again =
      ap (λ n. with_others (map (filled silent c) (range_with_len 0 n)) d) same_count
      ∙ ap (λ (ss : List SignalContents). record c { signals = ss }) (all_again [] c.signals refl)

  -- the two captures differ by changes alone
  same_but_changes : (k : ℕ) → record (signal_at d k) { changes = (signal_at c k).changes } ≡ signal_at c k
  same_but_changes k =
      ap (λ (s : SignalContents). record s { changes = (signal_at c k).changes })
      (sym (at_outline d k) ∙ ap (λ (o : Contents). signal_at o k) hollow_outline ∙ at_outline c k)

  filled_after_cuts : (es : List Edit) (k : ℕ) (b : Bool)
      → after_cuts d.end es (signal_at d k) (if b then Some (signal_at c k).changes else None)
      ≡ (if b then Some (signal_at (replay c (cuts es)) k).changes else None)
  filled_after_cuts es k true =
      ap (λ (s : SignalContents). Some (signal_after_cuts c.end es s).changes) (same_but_changes k)
      ∙ ap (λ (s : SignalContents). Some s.changes) (sym (signal_after_cuts_is c es k))
  filled_after_cuts es k false = refl

  all_known : (es : List Edit) → ReadOwn (emptied silent) count es
      → replay c es ≡ with_others (map (filled silent (replay c (cuts es))) (origins count es)) (replay d es)
  all_known es own =
      let reads : ReadOwn (filled silent c) count es =
      read_own (emptied silent) (filled silent c) (λ k. not_emptied (silent k) (signal_at c k).changes) count es own in
      sym (ap (λ (whole : Contents). replay whole es) whole_again)
      ∙ replay_same (filled silent c) d es (subst (λ n. ReadOwn (filled silent c) n es) (sym same_count) reads)
      ∙ (λ i. with_others (map (λ k. filled_after_cuts es k (silent k) i) (origins (same_count i) es)) (replay d es))

pub silent_are_cut_alone : SilentAreCutAlone
silent_are_cut_alone = all_known

-- ---- soundness

sound_emptied : (end : ℕ) (b : Bool) (s : SignalContents) → IsSoundSignal end s
    → IsSoundSignal end (with_other (if b then no_change else None) s)
sound_emptied end true s sound = sound_without end s sound
sound_emptied end false s sound = sound

sound_list : (end : ℕ) (silent : ℕ → Bool) (ks : List ℕ) (ss : List SignalContents)
    → AllByRecursion (IsSoundSignal end) ss
    → AllByRecursion (IsSoundSignal end) (signals_with_others (map (emptied silent) ks) ss)
sound_list end silent [] ss sound = sound
sound_list end silent (k ∷ ks) [] sound = tt
sound_list end silent (k ∷ ks) (s ∷ ss) sound =
    (sound_emptied end (silent k) s sound.0, sound_list end silent ks ss sound.1)

pub hollow_is_sound : HollowIsSound
hollow_is_sound silent c sound = record {
  header = sound.header;
  timescale = sound.timescale;
  end = sound.end;
  few = rw (same_count silent c) (sound.few);
  signals = All-from_recursion (IsSoundSignal c.end) (hollow silent c).signals
      (sound_list c.end silent (range_with_len 0 (length c.signals)) c.signals
      (recursion_from_All (IsSoundSignal c.end) c.signals sound.signals));
}
