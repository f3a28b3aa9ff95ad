-- The kept variables of a file in two captures, and the amendment that they give.
use Rattle.std.specs.Prelude.{ℕ, Bool, false, if◌then◌else◌, List, [], ◌∷◌, ◌++◌, map, drop, length}
use Rattle.std.specs.Prelude.{Option, Some, None}
use Rattle.std.specs.List.{flat_map}
use Rattle.vcd_core.specs.declared.wave.Change.{Change}
use Rattle.vcd_core.specs.Contents.{SignalContents}
use Rattle.vcd_text.specs.Grammar.{VariableDeclaration}
use Rattle.vcd_amend.specs.Amendment.{Amendment, Fate}
use Rattle.vcd_amend.specs.CodedAmendment.{fate_for, derived_variable}
use Rattle.vcd_amend.specs.GivenCodes.{NewWave, CodedWave, same_changes, distinct_waves}
use Rattle.vcd_amend.specs.GivenCodes.{derived_new_wave, coded_waves_from, code_for_wave}
use Rattle.vcd_amend.specs.GivenCodes.{coded_derived}

-- ---- a kept variable

-- a kept variable, its wave in the first capture, what is left of it in the last, and whether that
-- has the same changes
pub record KeptContents : Type 0 where
  pub variable : VariableDeclaration
  pub old : List Change
  pub left : Option SignalContents
  pub is_unchanged : Bool

-- whether a signal is left, with these changes
abbrev pub has_changes : List Change → Option SignalContents → Bool
has_changes old None = false
has_changes old (Some n) = same_changes old n.changes

-- a kept variable with what two captures have of it
abbrev pub kept_signal : VariableDeclaration → (old : List Change) → Option SignalContents
    → KeptContents
kept_signal d old left = record {
  variable = d;
  old = old;
  left = left;
  is_unchanged = has_changes old left;
}

-- all of them
abbrev pub kept_signals : List VariableDeclaration → (firsts : List SignalContents)
    → (left : List (Option SignalContents)) → List KeptContents
kept_signals (d ∷ ds) (f ∷ fs) (l ∷ ls) = kept_signal d f.changes l ∷ kept_signals ds fs ls
kept_signals ds fs ls = []

-- ---- what each gives

-- the code that it holds, if it is unchanged
abbrev pub held_code : KeptContents → List (List ℕ)
held_code k = if k.is_unchanged then k.variable.code ∷ [] else []

-- the wave to which it changes, if this is left of it
abbrev pub wave_of_kept : KeptContents → SignalContents → NewWave
wave_of_kept k n = record {
  own = Some k.variable.code;
  width = k.variable.size;
  old = k.old;
  new = n.changes;
}

-- the same as a list: none if nothing is left, or it is unchanged
abbrev pub changed_wave : KeptContents → (left : Option SignalContents) → List NewWave
changed_wave k None = []
changed_wave k (Some n) = if k.is_unchanged then [] else wave_of_kept k n ∷ []

-- the code of what is left of it
abbrev pub code_of_kept : List CodedWave → KeptContents → SignalContents → List ℕ
code_of_kept gs k n = if k.is_unchanged then k.variable.code
    else code_for_wave gs k.variable.code (wave_of_kept k n)

-- its fate, if this is left of it
abbrev pub fate_of_kept : List CodedWave → KeptContents → (left : Option SignalContents) → Fate
fate_of_kept gs k None = fate_for k.variable None
fate_of_kept gs k (Some n) =
    fate_for k.variable (Some (record { signal = n; code = code_of_kept gs k n }))

-- ---- what all give

-- the codes that are held
abbrev pub held_codes : List KeptContents → List (List ℕ)
held_codes ks = flat_map held_code ks

-- the waves to which they change, each once
abbrev pub changed_waves : List KeptContents → List NewWave
changed_waves ks = distinct_waves [] (flat_map (λ k. changed_wave k k.left) ks)

-- these and those of derived signals with their codes
abbrev pub coded_waves : (fresh : ℕ → List ℕ) → List KeptContents
    → (derived : List SignalContents) → List CodedWave
coded_waves fresh ks derived = coded_waves_from fresh (held_codes ks) 0
    (changed_waves ks ++ map derived_new_wave derived)

-- the fates
abbrev pub fates_of_kept : List CodedWave → List KeptContents → List Fate
fates_of_kept gs ks = map (λ k. fate_of_kept gs k k.left) ks

-- the amendment that these variables and derived signals give
abbrev pub amendment_of_kept : (fresh : ℕ → List ℕ) → List KeptContents
    → (derived : List SignalContents) → Amendment
amendment_of_kept fresh ks derived = record {
  fates = fates_of_kept (coded_waves fresh ks derived) ks;
  added = map derived_variable
      (coded_derived (drop (length (changed_waves ks)) (coded_waves fresh ks derived)) derived);
  codes = map (λ g. g.coded) (coded_waves fresh ks derived);
}
