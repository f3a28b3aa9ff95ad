-- The amendment by which a file means another capture, once the signals of that capture have codes.
-- The project's own.
use Rattle.std.specs.Prelude.{◌≡◌, ℕ, ◌+◌, ◌≤◌, ◌<◌, ◌&&◌, if◌then◌else◌, List, [], ◌∷◌, ◌++◌, map}
use Rattle.std.specs.Prelude.{length, All, Option, Some, None, IsTrue}
use Rattle.std.specs.List.{list_all}
use Rattle.std.specs.Str.{bytes_eq}
use Rattle.std.specs.Cmp.Lexicographic.{pointwise}
use Rattle.vcd_core.specs.Word.{is_word}
use Rattle.vcd_core.specs.Contents.{SignalContents}
use Rattle.vcd_core.specs.Sound.{IsSoundSignal}
use Rattle.vcd_text.specs.Grammar.{VariableDeclaration, ParseState, kept_variables}
use Rattle.vcd_text.specs.Meaning.{declared_signal, meaning}
use Rattle.vcd_amend.specs.Amendment.{AmendedCode, Fate, Amendment, stays, is_removed, is_changed}
use Rattle.vcd_amend.specs.Amendment.{first_with_code, amended_code}
use Rattle.vcd_amend.specs.AmendedMeaning.{AreApart, class_of, FitsAmendedCode, FitsFile}
use Rattle.vcd_amend.specs.AmendedMeaning.{amended_meaning}

-- a signal of the other capture, with its code in the amended file
pub record CodedSignal : Type 0 where
  pub signal : SignalContents
  pub code : List ℕ

-- the fate of a kept variable, of which this signal is left, or none
abbrev pub fate_for : VariableDeclaration → Option CodedSignal → Fate
fate_for d None = is_removed
fate_for d (Some t) =
    if pointwise bytes_eq d.words t.signal.words && bytes_eq d.code t.code then stays
    else is_changed t.signal.words t.code

-- the fates of the kept variables, of each of which one is left, or none
abbrev pub fates_for : List VariableDeclaration → List (Option CodedSignal) → List Fate
fates_for (d ∷ ds) (o ∷ os) = fate_for d o ∷ fates_for ds os
fates_for ds os = []

-- the variable of a derived signal
abbrev pub derived_variable : CodedSignal → VariableDeclaration
derived_variable t = record {
  scopes = t.signal.scopes;
  kind = t.signal.kind;
  size = t.signal.width;
  code = t.code;
  words = t.signal.words;
}

-- the amendment of a file with this state: what is left of each of its kept variables, the derived
-- signals, and the amended codes
abbrev pub coded_amendment : ParseState → (left : List (Option CodedSignal))
    → (derived : List CodedSignal) → List AmendedCode → Amendment
coded_amendment s left derived cs = record {
  fates = fates_for (kept_variables s.declared) left;
  added = map derived_variable derived;
  codes = cs;
}

-- the signals that are left of variables
abbrev pub signals_of_coded : List (Option CodedSignal) → List SignalContents
signals_of_coded [] = []
signals_of_coded (None ∷ os) = signals_of_coded os
signals_of_coded (Some t ∷ os) = t.signal ∷ signals_of_coded os

-- ---- codes that fit

-- a signal that is left of a variable has its wave by its code: that of the amended code, if it is
-- one, or else the code is that of the variable, and the wave that of the file
abbrev pub HasWave : ParseState → VariableDeclaration → CodedSignal → Option AmendedCode → Type 0
HasWave s d t None = (t.code ≡ d.code)
    × (t.signal.changes ≡ (declared_signal s.value_changes s.tick d).changes)
HasWave s d t (Some c) = (c.width ≡ d.size) × (t.signal.changes ≡ c.new)

-- a signal that can be left of a variable, with this code
pub record IsCodedSignalOf (s : ParseState) (cs : List AmendedCode) (d : VariableDeclaration)
    (t : CodedSignal) : Type 0 where
  pub scopes : t.signal.scopes ≡ d.scopes
  pub kind : t.signal.kind ≡ d.kind
  pub width : t.signal.width ≡ d.size
  pub words : IsTrue (list_all is_word t.signal.words)
  pub named : 0 < length t.signal.words
  pub word : IsTrue (is_word t.code)
  pub wave : HasWave s d t (amended_code t.code cs)

-- of each variable such a signal is left, or none
abbrev pub AreCodedSignalsOf : ParseState → List AmendedCode → List VariableDeclaration
    → List (Option CodedSignal) → Type 0
AreCodedSignalsOf s cs [] [] = Unit {0}
AreCodedSignalsOf s cs (d ∷ ds) (None ∷ os) = AreCodedSignalsOf s cs ds os
AreCodedSignalsOf s cs (d ∷ ds) (Some t ∷ os) =
    IsCodedSignalOf s cs d t × AreCodedSignalsOf s cs ds os
AreCodedSignalsOf s cs ds os = ⊥

-- a derived signal has its wave by an amended code
pub record IsCodedDerived (s : ParseState) (cs : List AmendedCode) (t : CodedSignal) : Type 0 where
  pub sound : IsSoundSignal s.tick t.signal
  pub word : IsTrue (is_word t.code)
  pub by : AmendedCode
  pub found : amended_code t.code cs ≡ Some by
  pub width : by.width ≡ t.signal.width
  pub wave : t.signal.changes ≡ by.new

-- variables of one code are of one class
abbrev pub AreAlike : List VariableDeclaration → Type 0
AreAlike ds = (code : List ℕ) (first : VariableDeclaration) → first_with_code code ds ≡ Some first
    → All (λ d. d.code ≡ code → class_of d ≡ class_of first) ds

-- the codes of the other capture fit a file with this state
pub record CodesFit (s : ParseState) (left : List (Option CodedSignal))
    (derived : List CodedSignal) (cs : List AmendedCode) : Type 0 where
  pub alike : AreAlike s.declared
  pub apart : AreApart cs
  pub codes : All (FitsAmendedCode (coded_amendment s left derived cs) s) cs
  pub variables : AreCodedSignalsOf s cs (kept_variables s.declared) left
  pub added : All (IsCodedDerived s cs) derived
  pub few : length (signals_of_coded left) + length derived ≤ s.limit

-- ---- the law

-- if the codes fit, the amendment fits the file, and the amended file means the other capture
abbrev pub CodedAmendmentGivesCapture : Type 0
CodedAmendmentGivesCapture = (s : ParseState) (left : List (Option CodedSignal))
    (derived : List CodedSignal) (cs : List AmendedCode) → CodesFit s left derived cs
    → FitsFile (coded_amendment s left derived cs) s
    × (amended_meaning (coded_amendment s left derived cs) s
    ≡ record (meaning s) { signals = signals_of_coded left ++ map (λ t. t.signal) derived })
