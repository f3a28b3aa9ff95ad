-- The waves to which variables change, as they are found by their codes.
use Rattle.std.specs.Prelude.{◌≡◌, ℕ, zero, suc, ◌+◌, Bool, true, false, if◌then◌else◌, List, []}
use Rattle.std.specs.Prelude.{◌∷◌, map, take}
use Rattle.std.specs.Prelude.{Option, Some, None, option_map, find, bytes_eq}
use Rattle.std.specs.List.{slice_get, list_any, AllZip}
use Rattle.std.specs.Option.{option_or}
use Rattle.std.specs.Global.{Vec}
use Rattle.std.specs.Borrow.{Bor}
use Rattle.indexmap.specs.IndexMap.{IndexMap, get_by}
use Rattle.vcd_core.specs.declared.wave.Change.{Change}
use Rattle.vcd_core.specs.declared.capture.Signal.{Signal}
use Rattle.vcd_core.specs.CaptureContents.{signal_contents}
use Rattle.vcd_core.specs.Contents.{SignalContents}
use Rattle.vcd_amend.specs.GivenCodes.{NewWave, same_new_wave}
use Rattle.vcd_amend.specs.DeclaredVariables.{declaration_of_variable}
use Rattle.vcd_amend.specs.declared.coding.kept_signal.KeptSignal.{KeptSignal}
use Rattle.vcd_amend.specs.declared.coding.kept_signal.ChangedWave.{ChangedWave}
use Rattle.vcd_amend.specs.declared.coding.changed_waves.ChangedWaves.{ChangedWaves}
use Rattle.vcd_amend.specs.inside.coding.KeptSignals.{KeptContents, changed_wave}

-- ---- what contracts see

-- what is left of a signal, lent
abbrev pub left_contents : Option (Bor Signal) → Option SignalContents
left_contents left = option_map (λ (n : Bor Signal). signal_contents n.now) left

-- a kept variable
abbrev pub kept_contents : KeptSignal → KeptContents
kept_contents k = record {
  variable = declaration_of_variable k.variable.now;
  old = k.old.now.changes;
  left = left_contents k.left;
  is_unchanged = k.is_unchanged;
}

-- a wave to which a variable of a code changes, with the index of the one of the code before it
pub record ChangedContents : Type 0 where
  pub code : List ℕ
  pub width : ℕ
  pub old : List Change
  pub new : List Change
  pub earlier : Option ℕ

abbrev pub changed_contents : ChangedWave → ChangedContents
changed_contents w = record {
  code = w.code.now;
  width = w.new.now.width;
  old = w.old.now.changes;
  new = w.new.now.changes;
  earlier = w.earlier;
}

-- all of them
abbrev pub all_contents : List ChangedWave → List ChangedContents
all_contents ws = map changed_contents ws

-- the new wave that one is
abbrev pub as_new_wave : ChangedContents → NewWave
as_new_wave w = record { own = Some w.code; width = w.width; old = w.old; new = w.new }

-- all of them
abbrev pub new_waves_of : List ChangedWave → List NewWave
new_waves_of ws = map as_new_wave (all_contents ws)

-- ---- the waves of a code

-- the index of the last wave of a code, from index `first` on
abbrev pub newest_from : (first : ℕ) → (code : List ℕ) → List ChangedContents → Option ℕ
newest_from first code [] = None
newest_from first code (w ∷ ws) = option_or (newest_from (first + 1) code ws)
    (if bytes_eq code w.code then Some first else None)

-- the index of a code in a map
abbrev pub index_in : {S : Type 0} → IndexMap (Vec ℕ) ℕ S → (code : List ℕ) → Option ℕ
index_in indices code = get_by (λ key. bytes_eq code key.items) indices

-- each wave leads to the one of its code before it
abbrev pub AreChained : List ChangedContents → Type 0
AreChained ws = (i : ℕ) (w : ChangedContents) → slice_get ws i ≡ Some w
    → w.earlier ≡ newest_from 0 w.code (take i ws)

-- and the map to the last of each code
pub record LeadsToWaves (changed : ChangedWaves) : Type 0 where
  pub earlier : AreChained (all_contents changed.waves.items)
  pub newest : (code : List ℕ) → index_in changed.newest code
      ≡ newest_from 0 code (all_contents changed.waves.items)

-- ---- the wave of a variable

-- no wave is a later one
abbrev pub AreDistinct : List NewWave → Type 0
AreDistinct [] = Unit {0}
AreDistinct (w ∷ ws) = (find (same_new_wave w) ws ≡ None) × AreDistinct ws

-- a wave, if it is none of these
abbrev pub unseen : (seen : List NewWave) → List NewWave → List NewWave
unseen seen [] = []
unseen seen (w ∷ ws) = if list_any (same_new_wave w) seen then [] else w ∷ []

-- the first wave that passes a test has this index
abbrev pub IsFirst : (NewWave → Bool) → List NewWave → ℕ → Type 0
IsFirst test [] i = ⊥
IsFirst test (w ∷ ws) zero = test w ≡ true
IsFirst test (w ∷ ws) (suc i) = (test w ≡ false) × IsFirst test ws i

-- the index of a wave, if there is one
abbrev pub IsIndexOf : List NewWave → (wave : List NewWave) → Option ℕ → Type 0
IsIndexOf ws [] index = index ≡ None
IsIndexOf ws (w ∷ others) index = (i : ℕ) × (index ≡ Some i) × IsFirst (same_new_wave w) ws i

-- the indices of the waves to which variables change
abbrev pub AreIndices : List NewWave → List KeptContents → List (Option ℕ) → Type 0
AreIndices ws ks indices = AllZip (λ k index. IsIndexOf ws (changed_wave k k.left) index) ks indices
