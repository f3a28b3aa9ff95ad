-- What the parser keeps of a part of a capture.
use Rattle.std.specs.Prelude.{◌≡◌, ◌⊎◌, ℕ, ◌+◌, ◌-◌, ◌≤◌, Bool, false, ◌&&◌, nat_lt, min, List, []}
use Rattle.std.specs.Prelude.{Some, Ok, Err, Result, IsTrue, IsFalse, IsSomeAnd, slice_get}
use Rattle.std.specs.Prelude.{slice_index_or, not}
use Rattle.std.specs.Prelude.{◌∷◌, map, if◌then◌else◌}
use Rattle.vcd_core.specs.Value.{all_x}
use Rattle.vcd_core.specs.Contents.{Contents, SignalContents}
use Rattle.vcd_text.specs.Parts.{part_of_signal}
use Rattle.vcd_core.specs.declared.capture.TheConstants.{END_LIMIT}
use Rattle.vcd_text.specs.Grammar.{VariableDeclaration, ValueChange, ParseState, kept_variables}
use Rattle.vcd_text.specs.inside.reading.Variables.{target_of, latest_value, VariablesMatch}
use Rattle.vcd_text.specs.inside.reading.Variables.{RefusesChange}
use Rattle.vcd_text.specs.Letters.{letters_of_digits}
use Rattle.vcd_text.specs.Grammar.{is_skipped, variable_of, with_value_change}
use Rattle.vcd_text.specs.inside.reading.DigitTests.{takes_binary_number}
use Rattle.vcd_text.specs.declared.fault.Fault.{Fault}
use Rattle.vcd_text.specs.declared.fault.Fault.TheVariants as faults
use Rattle.vcd_text.specs.declared.reading.part.Part.{Part}
use Rattle.vcd_text.specs.declared.reading.choice.TickRange.{TickRange}
use Rattle.vcd_text.specs.declared.reading.code_targets.CodeTarget.TheVariants.{Kept}
use Rattle.vcd_text.specs.declared.reading.variables.Variable.{Variable}
use Rattle.vcd_text.specs.declared.reading.variables.Variables.{Variables}

-- the items that a list of tests does not leave out, by position; those past its end remain
abbrev pub remaining : {A : Type 0} → List Bool → List A → List A
remaining [] xs = xs
remaining (out ∷ left_out) [] = []
remaining (out ∷ left_out) (x ∷ xs) =
    if out then remaining left_out xs else x ∷ remaining left_out xs

-- the part of a capture by a list of tests
abbrev pub listed_part : Part → Contents → Contents
listed_part part c = record c {
  end = min part.last c.end - part.first;
  signals = map (part_of_signal part.first (min part.last c.end - part.first))
      (remaining part.left_out.items c.signals);
}

-- a variable as the signal that it declares
abbrev pub undriven : VariableDeclaration → SignalContents
undriven d =
    record { scopes = d.scopes; kind = d.kind; words = d.words; width = d.size; changes = [] }

-- what is asked for: the signals that a test takes as they are declared, at these ticks
pub record Asked : Type 0 where
  pub takes : SignalContents → Bool
  pub ticks : TickRange

-- what a choice asks for
abbrev pub asked_by : {C : Type 0} → (C → SignalContents → Bool) → (C → TickRange) → C → Asked
asked_by takes ticks choice = record { takes = takes choice; ticks = ticks choice }

-- a list of tests leaves out the signals that another test does not take
abbrev pub LeavesOut : (SignalContents → Bool) → List SignalContents → List Bool → Type 0
LeavesOut takes signals left_out = (position : ℕ) (s : SignalContents) →
    slice_get signals position ≡ Some s
    → slice_index_or left_out position false ≡ not (takes s)

-- of these signals the part is what is asked for
pub record IsAskedPart (asked : Asked) (signals : List SignalContents) (part : Part) : Type 0 where
  pub first : part.first ≡ asked.ticks.first
  pub last : part.last ≡ asked.ticks.last
  pub leaves : LeavesOut asked.takes signals part.left_out.items

-- the tick of the part at a tick of the file, up to its end
abbrev pub seen_tick : Part → ℕ → ℕ
seen_tick part tick = min part.last tick - part.first

-- whether a tick is past the part
abbrev pub is_late : Part → ℕ → Bool
is_late part tick = nat_lt part.last tick && nat_lt part.first tick

-- the state with the value changes that are kept, at the ticks of the part
abbrev pub seen_state : Part → ParseState → List ValueChange → ParseState
seen_state part c seen = record c { value_changes = seen; tick = seen_tick part c.tick }

-- this declaration of a variable at a position remains
abbrev pub Remains : Part → ParseState → ℕ → VariableDeclaration → Type 0
Remains part c position d = (slice_get (kept_variables c.declared) position ≡ Some d)
    × IsFalse (slice_index_or part.left_out.items position false)

-- the value changes that are kept give each signal that remains its values at the ticks of the part
abbrev pub TellsPart : Part → ParseState → List ValueChange → Type 0
TellsPart part c seen = (position : ℕ) (d : VariableDeclaration) → Remains part c position d
    → (t : ℕ) → t ≤ part.last - part.first
    → latest_value d.size d.code t (all_x d.size) seen
    ≡ latest_value d.size d.code (part.first + t) (all_x d.size) c.value_changes

-- the code of each signal that remains is heard
abbrev pub HearsPart : Part → List Bool → Variables → ParseState → Type 0
HearsPart part silent vs c = (position : ℕ) (d : VariableDeclaration) → Remains part c position d
    → (width first : ℕ) → target_of vs d.code ≡ Kept width first
    → IsFalse (slice_index_or silent first false)

-- a change at this tick is not kept: it is late, or its code is silent
abbrev pub IsPassedOver : Part → List Bool → Variables → (tick : ℕ) → (code : List ℕ) → Type 0
IsPassedOver part silent vs tick code = IsTrue (is_late part tick)
    ⊎ ((width : ℕ) × (first : ℕ) × (target_of vs code ≡ Kept width first)
    × IsTrue (slice_index_or silent first false))

-- the first variable of the code of each one that remains is heard
abbrev pub HearsVariables : List Variable → (left_out silent : List Bool) → Type 0
HearsVariables kept left_out silent = (position : ℕ) (v : Variable) →
    slice_get kept position ≡ Some v
    → IsFalse (slice_index_or left_out position false)
    → IsFalse (slice_index_or silent v.first false)

-- the result of a change at this tick of the file, for the state that is kept: it is added, or
-- passed over, or its variable is skipped; or it shows a fault, or memory runs out
abbrev pub PartChange : Part → List Bool → (tick : ℕ) → ParseState → (code digits : List ℕ)
    → (old : Variables) → Result (Unit {0}) Fault → (new : Variables) → Type 0
PartChange part silent tick c code digits old (Ok x) new =
    IsSomeAnd (variable_of c code) (λ d. IsTrue (takes_binary_number d digits))
    × (new.code_targets ≡ old.code_targets)
    × ((IsFalse (is_late part tick)
    × VariablesMatch new (with_value_change c code (letters_of_digits digits)))
    ⊎ (VariablesMatch new c
    × (IsSomeAnd (variable_of c code) (λ d. IsTrue (is_skipped d))
    ⊎ IsPassedOver part silent old tick code)))
PartChange part silent tick c code digits old (Err fault) new = (fault ≡ faults.NoMemory)
    ⊎ RefusesChange c code digits fault

-- all ticks
abbrev pub all_ticks : TickRange
all_ticks = record { first = 0; last = END_LIMIT }

-- no signal, at all ticks
abbrev pub unheard : Asked
unheard = record { takes = λ _. false; ticks = all_ticks }
