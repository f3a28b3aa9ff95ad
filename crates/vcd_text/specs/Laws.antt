-- The laws of files: a file has one result, a prefix's fault is the file's, and the text of a
-- capture means the capture.
use Rattle.std.specs.Prelude.{◌≡◌, ℕ, ◌⊎◌, List, ◌++◌}
use Rattle.vcd_core.specs.Contents.{Contents}
use Rattle.vcd_core.specs.Sound.{IsSound}
use Rattle.vcd_text.specs.declared.fault.Fault.{Fault}
use Rattle.vcd_text.specs.Faults.{IsFileFault}
use Rattle.vcd_text.specs.FoundFaults.{IsFoundFault, PrefixShows}
use Rattle.vcd_text.specs.Meaning.{FileMeans}
use Rattle.vcd_core.specs.declared.capture.TheConstants.{SIGNAL_LIMIT}
use Rattle.vcd_text.specs.Text.{text}

-- ---- one answer

-- no file has two meanings
abbrev pub EveryFileHasAtMostOneMeaning : Type 0
EveryFileHasAtMostOneMeaning = (limit : ℕ) (bytes : List ℕ) (c d : Contents) (m n : ℕ)
    → FileMeans limit bytes c m → FileMeans limit bytes d n
    → (c ≡ d) × (m ≡ n)

-- no file has two faults, nor one fault at two lines
abbrev pub EveryFileHasAtMostOneFault : Type 0
EveryFileHasAtMostOneFault =
    (limit : ℕ) (bytes : List ℕ) (line other_line : ℕ) (fault other_fault : Fault)
    → IsFileFault limit bytes line fault
    → IsFileFault limit bytes other_line other_fault
    → (line ≡ other_line) × (fault ≡ other_fault)

-- no file has both a meaning and a fault
abbrev pub NoFileHasMeaningAndFault : Type 0
NoFileHasMeaningAndFault = (limit : ℕ) (bytes : List ℕ) (c : Contents) (n line : ℕ) (fault : Fault)
    → FileMeans limit bytes c n
    → IsFileFault limit bytes line fault → ⊥

-- every file has a meaning or a fault
abbrev pub EveryFileHasMeaningOrFault : Type 0
EveryFileHasMeaningOrFault =
    (limit : ℕ) (bytes : List ℕ) → ((c : Contents) × (n : ℕ) × FileMeans limit bytes c n)
    ⊎ ((line : ℕ) × (fault : Fault) × IsFileFault limit bytes line fault)

-- if a file has a fault, it is found so: a word shows it, or the words end too early
abbrev pub EveryFaultIsFound : Type 0
EveryFaultIsFound = (limit : ℕ) (bytes : List ℕ) (line : ℕ) (fault : Fault)
    → IsFileFault limit bytes line fault
    → IsFoundFault limit bytes line fault

-- ---- prefixes

-- no prefix of a file shows two faults, nor one fault at two lines
abbrev pub EveryPrefixHasAtMostOneFault : Type 0
EveryPrefixHasAtMostOneFault =
    (limit : ℕ) (prefix : List ℕ) (line other_line : ℕ) (fault other_fault : Fault)
    → PrefixShows limit prefix line fault
    → PrefixShows limit prefix other_line other_fault
    → (line ≡ other_line) × (fault ≡ other_fault)

-- the fault that a prefix shows is the fault of every file with this prefix
abbrev pub PrefixFaultIsFileFault : Type 0
PrefixFaultIsFileFault = (limit : ℕ) (prefix rest : List ℕ) (line : ℕ) (fault : Fault)
    → PrefixShows limit prefix line fault
    → IsFileFault limit (prefix ++ rest) line fault

-- ---- written texts

-- the text of a sound capture means the capture, and no variable of it is skipped
abbrev pub TextIsReadBack : Type 0
TextIsReadBack = (c : Contents) → IsSound c → FileMeans SIGNAL_LIMIT (text c) c 0

-- the text of a sound capture means only the capture
abbrev pub NothingElseIsReadBack : Type 0
NothingElseIsReadBack = (c d : Contents) (n : ℕ) → IsSound c → FileMeans SIGNAL_LIMIT (text c) d n
    → (d ≡ c) × (n ≡ 0)

-- the text of a sound capture has no fault
abbrev pub TextHasNoFault : Type 0
TextHasNoFault = (c : Contents) (line : ℕ) (fault : Fault) → IsSound c
    → IsFileFault SIGNAL_LIMIT (text c) line fault → ⊥
