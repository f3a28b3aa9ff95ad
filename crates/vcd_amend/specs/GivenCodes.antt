-- The codes that the signals of another capture get, and the amendment by which a file means that
-- capture. The project's own.
use Rattle.std.specs.Prelude.{◌≡◌, ℕ, ◌+◌, ◌≤◌, ◌==◌, ◌&&◌, if◌then◌else◌, Bool, false}
use Rattle.std.specs.Prelude.{List, [], ◌∷◌, ◌++◌, map, length, drop, find, All, Option}
use Rattle.std.specs.Prelude.{Some, None, IsTrue, is_some}
use Rattle.std.specs.List.{list_any}
use Rattle.std.specs.Str.{bytes_eq}
use Rattle.std.specs.Cmp.Lexicographic.{pointwise}
use Rattle.vcd_core.specs.declared.wave.Change.{Change}
use Rattle.vcd_core.specs.Value.{same_letters}
use Rattle.vcd_core.specs.Word.{is_word, is_one_of}
use Rattle.vcd_core.specs.Contents.{SignalContents}
use Rattle.vcd_core.specs.Sound.{IsSoundSignal}
use Rattle.vcd_text.specs.Grammar.{VariableDeclaration, ParseState, kept_variables}
use Rattle.vcd_text.specs.Meaning.{declared_signal}
use Rattle.vcd_amend.specs.Amendment.{Amendment, AmendedCode, first_with_code}
use Rattle.vcd_amend.specs.FreshCodes.{fresh_code}
use Rattle.vcd_amend.specs.CodedAmendment.{CodedSignal, AreAlike, CodesFit, coded_amendment}

-- ---- waves that need a code

-- a wave that a code is to mean, since a variable changes to it, or a derived signal has it: the
-- code of that variable, its wave in the file, and the new one
pub record NewWave : Type 0 where
  pub own : Option (List ℕ)
  pub width : ℕ
  pub old : List Change
  pub new : List Change

-- whether two waves have the same changes
abbrev pub same_changes : List Change → List Change → Bool
same_changes xs ys = pointwise (λ c d. (c.tick == d.tick) && same_letters c.value d.value) xs ys

-- whether the signal that is left of a variable has the wave that the variable has in the file
abbrev pub is_unchanged : ParseState → VariableDeclaration → SignalContents → Bool
is_unchanged s d n = same_changes (declared_signal s.value_changes s.tick d).changes n.changes

-- the wave to which a variable changes
abbrev pub new_wave_of : ParseState → VariableDeclaration → SignalContents → NewWave
new_wave_of s d n = record {
  own = Some d.code;
  width = d.size;
  old = (declared_signal s.value_changes s.tick d).changes;
  new = n.changes;
}

-- the wave of a derived signal
abbrev pub derived_new_wave : SignalContents → NewWave
derived_new_wave n = record { own = None; width = n.width; old = []; new = n.changes }

-- the codes that unchanged variables hold, if these signals are left of the kept variables
abbrev pub held_codes : ParseState → List VariableDeclaration
    → (remaining : List (Option SignalContents)) → List (List ℕ)
held_codes s (d ∷ ds) (Some n ∷ ns) =
    if is_unchanged s d n then d.code ∷ held_codes s ds ns else held_codes s ds ns
held_codes s (d ∷ ds) (None ∷ ns) = held_codes s ds ns
held_codes s ds ns = []

-- the waves to which variables change
abbrev pub waves_of_changed : ParseState → List VariableDeclaration
    → (remaining : List (Option SignalContents)) → List NewWave
waves_of_changed s (d ∷ ds) (Some n ∷ ns) =
    if is_unchanged s d n then waves_of_changed s ds ns
    else new_wave_of s d n ∷ waves_of_changed s ds ns
waves_of_changed s (d ∷ ds) (None ∷ ns) = waves_of_changed s ds ns
waves_of_changed s ds ns = []

-- whether there are two codes, and they are the same
abbrev pub same_own_code : Option (List ℕ) → Option (List ℕ) → Bool
same_own_code (Some a) (Some b) = bytes_eq a b
same_own_code a b = false

-- whether variables of one code change to one wave; two derived signals share no code
abbrev pub same_new_wave : NewWave → NewWave → Bool
same_new_wave w v = same_own_code w.own v.own && same_changes w.new v.new

-- each wave once, without those that came before
abbrev pub distinct_waves : (before : List NewWave) → List NewWave → List NewWave
distinct_waves before [] = []
distinct_waves before (w ∷ ws) =
    if list_any (same_new_wave w) before then distinct_waves before ws
    else w ∷ distinct_waves (w ∷ before) ws

-- the waves to which the kept variables change, each once
abbrev pub changed_waves : ParseState → (remaining : List (Option SignalContents)) → List NewWave
changed_waves s remaining =
    distinct_waves [] (waves_of_changed s (kept_variables s.declared) remaining)

-- these, and one of each derived signal
abbrev pub new_waves : ParseState → (remaining : List (Option SignalContents))
    → (derived : List SignalContents) → List NewWave
new_waves s remaining derived = changed_waves s remaining ++ map derived_new_wave derived

-- ---- their codes

-- a new wave with the amended code that means it
pub record CodedWave : Type 0 where
  pub wave : NewWave
  pub coded : AmendedCode

-- the wave with this code, which has this wave in the file
abbrev pub wave_with_code : NewWave → (code : List ℕ) → (old : List Change) → CodedWave
wave_with_code w code old = record {
  wave = w;
  coded = record { code = code; width = w.width; old = old; new = w.new };
}

-- the own code of a wave, if it is not taken
abbrev pub free_code : (taken : List (List ℕ)) → (own : Option (List ℕ)) → Option (List ℕ)
free_code taken None = None
free_code taken (Some code) = if is_one_of taken code then None else Some code

-- a wave with its own code, if this is free, or else with fresh code n
abbrev pub coded_wave : (fresh : ℕ → List ℕ) → ℕ → NewWave → (free : Option (List ℕ)) → CodedWave
coded_wave fresh n w None = wave_with_code w (fresh n) []
coded_wave fresh n w (Some code) = wave_with_code w code w.old

-- the number of the next fresh code after it
abbrev pub next_fresh : ℕ → (free : Option (List ℕ)) → ℕ
next_fresh n None = n + 1
next_fresh n (Some code) = n

-- the codes that are taken after it
abbrev pub also_taken : (taken : List (List ℕ)) → (free : Option (List ℕ)) → List (List ℕ)
also_taken taken None = taken
also_taken taken (Some code) = code ∷ taken

-- waves with codes, one after another, from fresh code n on
abbrev pub coded_waves_from : (fresh : ℕ → List ℕ) → (taken : List (List ℕ)) → ℕ → List NewWave
    → List CodedWave
coded_waves_from fresh taken n [] = []
coded_waves_from fresh taken n (w ∷ ws) = coded_wave fresh n w (free_code taken w.own)
    ∷ coded_waves_from fresh (also_taken taken (free_code taken w.own))
    (next_fresh n (free_code taken w.own)) ws

-- all new waves with their codes: no code that an unchanged variable holds is among these
abbrev pub coded_waves : ParseState → (remaining : List (Option SignalContents))
    → (derived : List SignalContents) → List CodedWave
coded_waves s remaining derived = coded_waves_from (fresh_code s)
    (held_codes s (kept_variables s.declared) remaining) 0 (new_waves s remaining derived)

-- ---- the signals of the other capture with their codes

-- the code of a coded wave, if there is one
abbrev pub code_of_coded : Option CodedWave → (own : List ℕ) → List ℕ
code_of_coded None own = own
code_of_coded (Some g) own = g.coded.code

-- the code of a new wave
abbrev pub code_for_wave : List CodedWave → (own : List ℕ) → NewWave → List ℕ
code_for_wave gs own w = code_of_coded (find (λ g. same_new_wave w g.wave) gs) own

-- the signal that is left of a variable: unchanged, it keeps its code
abbrev pub coded_signal : ParseState → List CodedWave → VariableDeclaration → SignalContents
    → CodedSignal
coded_signal s gs d n = record {
  signal = n;
  code = if is_unchanged s d n then d.code else code_for_wave gs d.code (new_wave_of s d n);
}

-- the signals that are left of variables
abbrev pub coded_signals : ParseState → List CodedWave → List VariableDeclaration
    → (remaining : List (Option SignalContents)) → List (Option CodedSignal)
coded_signals s gs (d ∷ ds) (Some n ∷ ns) = Some (coded_signal s gs d n) ∷ coded_signals s gs ds ns
coded_signals s gs (d ∷ ds) (None ∷ ns) = None ∷ coded_signals s gs ds ns
coded_signals s gs ds ns = []

-- the derived signals
abbrev pub coded_derived : List CodedWave → (derived : List SignalContents) → List CodedSignal
coded_derived (g ∷ gs) (n ∷ ns) = record { signal = n; code = g.coded.code } ∷ coded_derived gs ns
coded_derived gs ns = []

-- what is done to a file with this state so that these signals are left of its kept variables, and
-- these are derived
abbrev pub amendment_for : ParseState → (remaining : List (Option SignalContents))
    → (derived : List SignalContents) → Amendment
amendment_for s remaining derived = coded_amendment s
    (coded_signals s (coded_waves s remaining derived) (kept_variables s.declared) remaining)
    (coded_derived (drop (length (changed_waves s remaining)) (coded_waves s remaining derived))
    derived)
    (map (λ g. g.coded) (coded_waves s remaining derived))

-- ---- the laws

-- a sound signal that can be left of a variable: it has its scopes, its kind and its width
pub record IsSignalOf (s : ParseState) (d : VariableDeclaration) (n : SignalContents) : Type 0 where
  pub scopes : n.scopes ≡ d.scopes
  pub kind : n.kind ≡ d.kind
  pub width : n.width ≡ d.size
  pub sound : IsSoundSignal s.tick n

-- of each variable such a signal is left, or none
abbrev pub AreSignalsOf : ParseState → List VariableDeclaration
    → (remaining : List (Option SignalContents)) → Type 0
AreSignalsOf s [] [] = Unit {0}
AreSignalsOf s (d ∷ ds) (None ∷ ns) = AreSignalsOf s ds ns
AreSignalsOf s (d ∷ ds) (Some n ∷ ns) = IsSignalOf s d n × AreSignalsOf s ds ns
AreSignalsOf s ds ns = ⊥

-- the signals that are left
abbrev pub signals_left : (remaining : List (Option SignalContents)) → List SignalContents
signals_left [] = []
signals_left (None ∷ ns) = signals_left ns
signals_left (Some n ∷ ns) = n ∷ signals_left ns

-- the state of a file: its codes are words, those of one code are alike, and its value changes are
-- of declared codes
pub record IsFileState (s : ParseState) : Type 0 where
  pub words : All (λ d. IsTrue (is_word d.code)) s.declared
  pub alike : AreAlike s.declared
  pub known : All (λ v. IsTrue (is_some (first_with_code v.code s.declared))) s.value_changes

-- the codes that are given fit
abbrev pub GivenCodesFit : Type 0
GivenCodesFit = (s : ParseState) (remaining : List (Option SignalContents))
    (derived : List SignalContents) → IsFileState s
    → AreSignalsOf s (kept_variables s.declared) remaining
    → All (IsSoundSignal s.tick) derived
    → length (signals_left remaining) + length derived ≤ s.limit
    → CodesFit s
    (coded_signals s (coded_waves s remaining derived) (kept_variables s.declared) remaining)
    (coded_derived (drop (length (changed_waves s remaining)) (coded_waves s remaining derived))
    derived)
    (map (λ g. g.coded) (coded_waves s remaining derived))
