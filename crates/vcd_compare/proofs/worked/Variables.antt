-- Worked cases: variables that are no signals, and their waves by words.
use Rattle.std.proofs.Common.{◌≡◌, ℕ, List, [], ◌∷◌, refl, true}
use Rattle.std.specs.Prelude.{codes, decimal}
use Rattle.vcd_text.specs.Grammar.{VariableDeclaration}
use Rattle.vcd_text.specs.HeardChanges.{HeardChange, first_with}
use Rattle.vcd_text.specs.declared.reading.heard_changes.ChangeTarget.{ChangeTarget}
use Rattle.vcd_text.specs.declared.reading.heard_changes.ChangeTarget.TheVariants.{Kept, Skipped}
use Rattle.vcd_compare.specs.Differences.{WaveByTicks}
use Rattle.vcd_compare.specs.Variables.{compared_width, last_value, word_variable, word_by_tick, shortest_word}

abbrev variable : (kind : List ℕ) → (size : ℕ) → (code name : List ℕ) → VariableDeclaration
variable kind size code name = record { scopes = []; kind = kind; size = size; code = code; words = name ∷ [] }

-- a real number, an event, and a string that has the code of the event
abbrev level : VariableDeclaration
level = variable (codes "real") 64 (codes "%") (codes "level")

abbrev done : VariableDeclaration
done = variable (codes "event") 1 (codes "&") (codes "done")

abbrev note : VariableDeclaration
note = variable (codes "string") 1 (codes "&") (codes "note")

abbrev all : List VariableDeclaration
all = level ∷ done ∷ note ∷ []

abbrev at : ℕ → ChangeTarget → List ℕ → HeardChange
at tick target text = record { tick = tick; target = target; text = text }

abbrev heard : List HeardChange
heard = at 0 (Skipped 0) (codes "r1.5") ∷ at 3 (Skipped 1) (codes "1") ∷ at 3 (Kept 0) (codes "1")
    ∷ at 3 (Skipped 0) (codes "r2") ∷ at 3 (Skipped 0) (codes "r2.5") ∷ at 7 (Skipped 1) (codes "1") ∷ []

-- ten ticks of the comparison are one of the file
abbrev wave : VariableDeclaration → WaveByTicks (List ℕ)
wave d = word_by_tick 10 (word_variable all heard d)

-- a real number has no width, and a signal that is too wide has its own
real_width : compared_width level ≡ 0
real_width = refl

wide_width : compared_width (variable (codes "wire") 2000 (codes "#") (codes "bus")) ≡ 2000
wide_width = refl

-- the last change of a tick counts
real_before : wave level 29 ≡ codes "r1.5"
unfolding first_with last_value shortest_word
real_before = refl

real_after : wave level 30 ≡ codes "r2.5"
unfolding first_with last_value shortest_word
real_after = refl

-- an event has the tick at which it was last, and before the first one no word
no_event : wave done 29 ≡ []
unfolding first_with last_value shortest_word
no_event = refl

first_event : wave done 69 ≡ decimal 30
unfolding first_with last_value shortest_word
first_event = refl

second_event : wave done 70 ≡ decimal 70
unfolding first_with last_value shortest_word
second_event = refl

-- what has the code of an event is one
namesake : (word_variable all heard note).is_event ≡ true
unfolding first_with
namesake = refl

same_code : wave note 69 ≡ decimal 30
unfolding first_with last_value shortest_word
same_code = refl

-- digits at the beginning that say nothing go: zeros before 0 or 1, x before x; zero before x stays
zeros : shortest_word (codes "0010") ≡ codes "10"
unfolding shortest_word
zeros = refl

one_zero : shortest_word (codes "00") ≡ codes "0"
unfolding shortest_word
one_zero = refl

unknown : shortest_word (codes "xx0z") ≡ codes "x0z"
unfolding shortest_word
unknown = refl

zero_before_x : shortest_word (codes "0x") ≡ codes "0x"
unfolding shortest_word
zero_before_x = refl
