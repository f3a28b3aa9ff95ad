-- Sets of codes, and the codes that are given.
use Rattle.std.specs.Prelude.{◌≡◌, ℕ, Bool, not, List, [], ◌∷◌, ◌++◌, map, length, bytes_eq}
use Rattle.std.specs.Prelude.{Option, Some, None}
use Rattle.std.specs.List.{slice_get}
use Rattle.std.specs.Global.{Vec}
use Rattle.indexmap.specs.IndexSet.{IndexSet, contains_by}
use Rattle.vcd_core.specs.Word.{is_one_of}
use Rattle.vcd_core.specs.Contents.{SignalContents}
use Rattle.vcd_text.specs.Grammar.{VariableDeclaration, ParseState}
use Rattle.vcd_amend.specs.Amendment.{AmendedCode, Fate}
use Rattle.vcd_amend.specs.CodedAmendment.{fate_for, derived_variable}
use Rattle.vcd_amend.specs.GivenCodes.{NewWave, coded_waves_from}
use Rattle.vcd_amend.specs.FreshCodes.{is_fresh, fresh_codes, fresh_code}
use Rattle.vcd_amend.specs.inside.coding.KeptSignals.{KeptContents}

-- ---- sets

-- whether a code is in a set
abbrev pub has_code : {S : Type 0} → IndexSet (Vec ℕ) S → (code : List ℕ) → Bool
has_code codes code = contains_by (λ key. bytes_eq code key.items) codes

-- a set has these codes
abbrev pub HasCodes : {S : Type 0} → IndexSet (Vec ℕ) S → List (List ℕ) → Type 0
HasCodes codes list = (code : List ℕ) → has_code codes code ≡ is_one_of list code

-- a set has the codes that are not fresh
abbrev pub KnowsCodes : {S : Type 0} → IndexSet (Vec ℕ) S → ParseState → Type 0
KnowsCodes known s = (code : List ℕ) → has_code known code ≡ not (is_fresh s code)

-- ---- codes of waves

-- how many codes of the positions before this one are fresh
abbrev pub fresh_before : ParseState → (position : ℕ) → ℕ
fresh_before s position = length (fresh_codes s position)

-- the amended codes of waves, if these codes are taken, with fresh codes from a position on
abbrev pub codes_from : ParseState → (taken : List (List ℕ)) → (position : ℕ) → List NewWave
    → List AmendedCode
codes_from s taken position ws =
    map (λ g. g.coded) (coded_waves_from (fresh_code s) taken (fresh_before s position) ws)

-- waves got these codes, one after another, and other waves are left: whatever follows these
abbrev pub GetCodes : ParseState → (before : List AmendedCode) → (taken : List (List ℕ))
    → (position : ℕ) → List NewWave → (after : List AmendedCode) → (taken_after : List (List ℕ))
    → (position_after : ℕ) → List NewWave → Type 0
GetCodes s before taken position ws after taken_after position_after left =
    (tail : List NewWave) → before ++ codes_from s taken position (ws ++ tail)
    ≡ after ++ codes_from s taken_after position_after (left ++ tail)

-- ---- by index

-- the code at an index, or a variable's own
abbrev pub code_or : Option AmendedCode → (own : List ℕ) → List ℕ
code_or None own = own
code_or (Some c) own = c.code

abbrev pub code_by_index : List AmendedCode → Option ℕ → (own : List ℕ) → List ℕ
code_by_index cs None own = own
code_by_index cs (Some i) own = code_or (slice_get cs i) own

-- the fate of a variable, if this is left of it, by the index of its code
abbrev pub fate_by_index : List AmendedCode → KeptContents → (left : Option SignalContents)
    → Option ℕ → Fate
fate_by_index cs k None index = fate_for k.variable None
fate_by_index cs k (Some n) index = fate_for k.variable
    (Some (record { signal = n; code = code_by_index cs index k.variable.code }))

-- the fates of variables
abbrev pub fates_by_index : List AmendedCode → List KeptContents → List (Option ℕ) → List Fate
fates_by_index cs (k ∷ ks) (index ∷ indices) =
    fate_by_index cs k k.left index ∷ fates_by_index cs ks indices
fates_by_index cs ks indices = []

-- the variables of derived signals with these codes
abbrev pub variables_by_codes : List SignalContents → List AmendedCode → List VariableDeclaration
variables_by_codes (n ∷ ns) (c ∷ cs) =
    derived_variable (record { signal = n; code = c.code }) ∷ variables_by_codes ns cs
variables_by_codes ns cs = []
