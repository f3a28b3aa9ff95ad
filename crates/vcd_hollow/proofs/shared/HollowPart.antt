-- A hollow capture is a part of the whole one, put into its declarations.
use Rattle.std.proofs.Common.{◌≡◌, ◌<◌, ℕ, ◌+◌, ◌-◌, Bool, true, false, not, if◌then◌else◌, min, List, [], ◌∷◌, ◌++◌}
use Rattle.std.proofs.Common.{length, map, drop, get_or, Some, None, refl, sym, ap, ◌∙◌, arith}
use Rattle.std.specs.Prelude.{filter}
use Rattle.std.specs.List.{AllByRecursion, range_with_len}
use Rattle.std.proofs.lemmas.List.{append_assoc, get_or_at, length-append}
use Rattle.std.proofs.lemmas.List.Elements.{recursion_from_All}
use Rattle.vcd_core.specs.declared.wave.Change.{Change}
use Rattle.vcd_core.specs.Wave.{changes_of}
use Rattle.vcd_core.specs.Contents.{Contents, SignalContents, no_signal, signal_at, signal_value}
use Rattle.vcd_core.specs.Sound.{IsSoundSignal}
use Rattle.vcd_core.specs.Outline.{without_changes}
use Rattle.vcd_core.proofs.shared.Waves.{changes_of-value_at}
use Rattle.vcd_text.specs.Parts.{part_of_signal}
use Rattle.vcd_hollow.specs.OtherWaves.{with_other, signals_with_others}
use Rattle.vcd_hollow.specs.Hollow.{emptied}
use Rattle.vcd_hollow.specs.HollowPart.{with_taken, AreTaken, HollowIsPart}

-- ---- the part of all ticks

from_none : (first t : ℕ) → first ≡ 0 → first + t ≡ t
from_none first t none = omega (arith, none)

same_part : (first end : ℕ) (s : SignalContents) → first ≡ 0 → IsSoundSignal end s → part_of_signal first end s ≡ s
same_part first end s none sound =
    ap (λ (cs : List Change). record s { changes = cs })
    ((λ i. changes_of s.width end (λ t. signal_value s (from_none first t none i)))
    ∙ changes_of-value_at s.width end s.changes sound.wave sound.ticks)

-- ---- one signal

-- with the others, if it is taken or if not
one_more : (b : Bool) (p : SignalContents → SignalContents) (s : SignalContents) (taken : List SignalContents)
    (rest : List SignalContents → List SignalContents) → p s ≡ s →
    (if b then get_or (map p (if b then s ∷ taken else taken)) 0 (without_changes s)
    ∷ rest (drop 1 (map p (if b then s ∷ taken else taken)))
    else without_changes s ∷ rest (map p (if b then s ∷ taken else taken)))
    ≡ with_other (if not b then Some [] else None) s ∷ rest (map p taken)
one_more true p s taken rest same = ap (λ (r : SignalContents). r ∷ rest (map p taken)) same
one_more false p s taken rest same = refl

-- ---- all signals

module _ (takes : SignalContents → Bool) (silent : ℕ → Bool) (c : Contents) (first end : ℕ) (none : first ≡ 0)
    (are : AreTaken takes silent c) where
  abbrev is_taken : SignalContents → Bool
  is_taken s = takes (without_changes s)

  all_taken : (before ss : List SignalContents) → c.signals ≡ before ++ ss → AllByRecursion (IsSoundSignal end) ss
      → with_taken takes (map without_changes ss) (map (part_of_signal first end) (filter is_taken ss))
      ≡ signals_with_others (map (emptied silent) (range_with_len (length before) (length ss))) ss
  all_taken before [] is sound = refl
  all_taken before (s ∷ ss) is sound =
      let here : signal_at c (length before) ≡ s =
      ap (λ (all : List SignalContents). get_or all (length before) no_signal) is
      ∙ get_or_at before s ss no_signal (length before) refl in
      let within : length before < length c.signals =
      omega (arith, ap (λ (all : List SignalContents). length all) is, length-append before (s ∷ ss)) in
      let mark : not (is_taken s) ≡ silent (length before) =
      ap (λ (r : SignalContents). not (is_taken r)) (sym here) ∙ sym (are (length before) within) in
      let others : ℕ → List SignalContents = λ n.
      signals_with_others (map (emptied silent) (range_with_len n (length ss))) ss in
      let rest : with_taken takes (map without_changes ss) (map (part_of_signal first end) (filter is_taken ss))
      ≡ others (length before + 1) =
      all_taken (before ++ s ∷ []) ss (is ∙ sym (append_assoc before (s ∷ []) ss)) sound.1
      ∙ ap others (length-append before (s ∷ [])) in
      one_more (is_taken s) (part_of_signal first end) s (filter is_taken ss)
      (with_taken takes (map without_changes ss))
      (same_part first end s none sound.0)
      ∙ λ i. with_other (if mark i then Some [] else None) s ∷ rest i

pub hollow_is_part : HollowIsPart
hollow_is_part takes silent ticks c sound none last are =
    let end : min ticks.last c.end - ticks.first ≡ c.end = omega (arith, none, last) in
    ap (λ (ss : List SignalContents). record c { signals = ss })
    (sym (all_taken takes silent c ticks.first c.end none are [] c.signals refl
    (recursion_from_All (IsSoundSignal c.end) c.signals sound))
    ∙ λ i. with_taken takes (map without_changes c.signals)
    (map (part_of_signal ticks.first (sym end i)) (filter (λ s. takes (without_changes s)) c.signals)))
