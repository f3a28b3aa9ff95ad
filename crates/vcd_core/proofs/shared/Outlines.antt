-- Captures without their changes.
use Rattle.std.proofs.Common.{◌≡◌, ℕ, suc, List, [], ◌∷◌, ◌++◌, length, map, take, drop, refl, sym, ap, ◌∙◌}
use Rattle.std.specs.List.{AllByRecursion, remove}
use Rattle.std.proofs.Math.ListN.{get_or-map}
use Rattle.std.proofs.lemmas.List.{length-map, map-append, take-map, drop-map}
use Rattle.std.proofs.lemmas.List.Elements.{recursion_from_All, All-from_recursion}
use Rattle.vcd_core.specs.Contents.{Contents, SignalContents, no_signal, signal_at}
use Rattle.vcd_core.specs.Outline.{without_changes, outline, OutlineIsSound}
use Rattle.vcd_core.specs.Names.{full_name, full_names}
use Rattle.vcd_core.specs.Sound.{IsSoundSignal}

-- ---- signals

pub count_in_outline : (c : Contents) → length (outline c).signals ≡ length c.signals
count_in_outline c = length-map c.signals without_changes

pub at_outline : (c : Contents) (k : ℕ) → signal_at (outline c) k ≡ without_changes (signal_at c k)
at_outline c k = get_or-map without_changes c.signals k no_signal

pub names_of_outline : (ss : List SignalContents) → full_names (map without_changes ss) ≡ full_names ss
names_of_outline [] = refl
names_of_outline (s ∷ ss) = ap (λ (names : List (List ℕ)). full_name s ∷ names) (names_of_outline ss)

-- twice is once
pub twice : (ss : List SignalContents) → map without_changes (map without_changes ss) ≡ map without_changes ss
twice [] = refl
twice (s ∷ ss) = ap (λ (rest : List SignalContents). without_changes s ∷ rest) (twice ss)

pub outline_of_outline : (c : Contents) → outline (outline c) ≡ outline c
outline_of_outline c = ap (λ (ss : List SignalContents). record c { signals = ss }) (twice c.signals)

-- what a function makes of a list without one of its items
pub map-remove : {X Y : Type 0} (f : X → Y) (xs : List X) (k : ℕ) → map f (remove xs k) ≡ remove (map f xs) k
map-remove f xs k =
    map-append f (take k xs) (drop (suc k) xs) ∙ λ i. sym (take-map f k xs) i ++ sym (drop-map f (suc k) xs) i

-- ---- soundness

pub sound_without : (end : ℕ) (s : SignalContents) → IsSoundSignal end s → IsSoundSignal end (without_changes s)
sound_without end s sound = record {
  scopes = sound.scopes;
  kind = sound.kind;
  kept = sound.kept;
  named = sound.named;
  words = sound.words;
  least = sound.least;
  most = sound.most;
  wave = record { rise = tt };
  ticks = tt;
}

sound_list : (end : ℕ) (ss : List SignalContents) → AllByRecursion (IsSoundSignal end) ss
    → AllByRecursion (IsSoundSignal end) (map without_changes ss)
sound_list end [] sound = tt
sound_list end (s ∷ ss) sound = (sound_without end s sound.0, sound_list end ss sound.1)

pub outline_is_sound : OutlineIsSound
outline_is_sound c sound = record {
  header = sound.header;
  timescale = sound.timescale;
  end = sound.end;
  few = rw (count_in_outline c) (sound.few);
  signals = All-from_recursion (IsSoundSignal c.end) (map without_changes c.signals)
      (sound_list c.end c.signals (recursion_from_All (IsSoundSignal c.end) c.signals sound.signals));
}
