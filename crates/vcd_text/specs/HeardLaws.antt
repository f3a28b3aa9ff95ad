-- The laws of what is heard of a file: it is what the file means, in the order of ticks.
use Rattle.std.specs.Prelude.{◌≡◌, ℕ, ◌<◌, ◌≤◌, List, [], ◌∷◌, Some, IsTrue, All, slice_get, map}
use Rattle.std.specs.Prelude.{IsSomeAnd, length}
use Rattle.vcd_core.specs.Contents.{signal_value}
use Rattle.vcd_core.specs.Wave.{value_at}
use Rattle.vcd_text.specs.Grammar.{VariableDeclaration, ParseState, initial_state, kept_variables}
use Rattle.vcd_text.specs.Letters.{value_of_digits, extension, letters_of_digits}
use Rattle.vcd_text.specs.Meaning.{declared_signal}
use Rattle.vcd_text.specs.HeardChanges.{HeardChange, AreHeard, first_with, heard_changes}
use Rattle.vcd_text.specs.HeardChanges.{skipped_variables}
use Rattle.vcd_text.specs.declared.reading.heard_changes.ChangeTarget.{ChangeTarget}
use Rattle.vcd_text.specs.declared.reading.heard_changes.ChangeTarget.TheVariants.{Kept, Skipped}

-- what is heard of the first variable of its code gives each signal its value at every tick
abbrev pub HeardChangesGiveValues : Type 0
HeardChangesGiveValues = (limit : ℕ) (state : ParseState) (heard : List HeardChange)
    → AreHeard (initial_state limit) state heard → (k t : ℕ) (d : VariableDeclaration)
    → slice_get (kept_variables state.declared) k ≡ Some d → t ≤ state.tick
    → signal_value (declared_signal state.value_changes state.tick d) t
    ≡ value_at d.size (heard_changes d.size (first_with d.code (kept_variables state.declared))
    heard) t

-- ticks rise from one to another
abbrev pub TicksRise : (from to : ℕ) → List ℕ → Type 0
TicksRise from to [] = from ≤ to
TicksRise from to (t ∷ ts) = (from ≤ t) × TicksRise t to ts

-- what is heard comes in the order of ticks, from that before it to that after it
abbrev pub HeardChangesRise : Type 0
HeardChangesRise = (from to : ParseState) (heard : List HeardChange) → AreHeard from to heard
    → TicksRise from.tick to.tick (map (λ h. h.tick) heard)

-- among the changes the declarations stay
abbrev pub DeclarationsStay : Type 0
DeclarationsStay = (from to : ParseState) (heard : List HeardChange) → AreHeard from to heard
    → IsTrue from.in_body → IsTrue to.in_body × (to.declared ≡ from.declared)
    × (to.timescale ≡ from.timescale)

-- the target is a variable, and if it is kept, the text writes a value of it
abbrev pub FitsTarget : List VariableDeclaration → ChangeTarget → (text : List ℕ) → Type 0
FitsTarget declared (Kept position) text = IsSomeAnd (slice_get (kept_variables declared) position)
    (λ d. value_of_digits d.size text ≡ Some (extension d.size (letters_of_digits text)))
FitsTarget declared (Skipped position) text = position < length (skipped_variables declared)

-- each target is a variable, and each text of a kept one writes a value of it
abbrev pub HeardChangesFit : Type 0
HeardChangesFit = (limit : ℕ) (state : ParseState) (heard : List HeardChange)
    → AreHeard (initial_state limit) state heard
    → All (λ h. FitsTarget state.declared h.target h.text) heard
