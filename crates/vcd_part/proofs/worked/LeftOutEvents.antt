-- Worked cases: the events that are left out at the first tick of a window.
use Rattle.std.proofs.Common.{◌≡◌, refl}
use Rattle.std.specs.Prelude.{ℕ, List, [], ◌∷◌, codes, None}
use Rattle.vcd_core.specs.Names.{name_in}
use Rattle.vcd_text.specs.Grammar.{VariableDeclaration}
use Rattle.vcd_text.specs.declared.reading.choice.TickRange.{TickRange}
use Rattle.vcd_part.specs.declared.request.Request.{Request}
use Rattle.vcd_part.specs.declared.time.Time.TheVariants.{Ticks}
use Rattle.vcd_part.specs.PartPieces.{each_once}
use Rattle.vcd_part.specs.WrittenPart.{events_left_out_at_first}

-- a request for all variables from this tick on
abbrev pub all_from : (first : ℕ) → Request
all_from first = record { keep = None; remove = None; from = Ticks first; to = Ticks 9 }

-- the window from this tick on
abbrev pub window_from : (first : ℕ) → TickRange
window_from first = record { first = first; last = 9 }

-- a variable of this kind, with this name and code
abbrev variable : (kind name code : List ℕ) → VariableDeclaration
variable kind name code = record { scopes = []; kind = kind; size = 1; code = code; words = name ∷ [] }

abbrev variables : List VariableDeclaration
variables = variable (codes "event") (codes "tick") (codes "!") ∷ variable (codes "string") (codes "text") (codes "!")
    ∷ variable (codes "event") (codes "irq") (codes "%") ∷ []

-- the code of `tick` is that of a string too, so that its last change stands at tick 0 of the part
irq_is_left_out : events_left_out_at_first (all_from 4) (window_from 4) variables
    ≡ variable (codes "event") (codes "irq") (codes "%") ∷ []
unfolding name_in each_once
irq_is_left_out = refl

-- a window from tick 0 on has all events
none_from_the_start : events_left_out_at_first (all_from 0) (window_from 0) variables ≡ []
unfolding name_in each_once
none_from_the_start = refl
