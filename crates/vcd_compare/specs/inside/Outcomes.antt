-- What is told of the variables of two captures, by what a request says of their names.
use Rattle.std.specs.Prelude.{◌≡◌, ℕ, ◌==◌, ◌&&◌, ◌||◌, not, Bool, false, true, if◌then◌else◌}
use Rattle.std.specs.Prelude.{Option, Some}
use Rattle.std.specs.Prelude.{None, List, [], ◌∷◌, map, filter, length, slice_index_or, slice_set}
use Rattle.std.specs.Prelude.{slice_get}
use Rattle.std.specs.List.{range_with_len, flat_map}
use Rattle.vcd_core.specs.Contents.{Contents, SignalContents}
use Rattle.vcd_core.specs.Names.{full_names}
use Rattle.vcd_text.specs.Grammar.{VariableDeclaration}
use Rattle.vcd_compare.specs.inside.Matching.{IsMatching}
use Rattle.vcd_compare.specs.inside.Walk.{all_variables, is_kept_at}
use Rattle.vcd_compare.specs.declared.comparison.Outcome.{Outcome}
use Rattle.vcd_compare.specs.declared.comparison.Outcome.TheVariants as outcomes
use Rattle.vcd_compare.specs.declared.request.CompareRequest.{CompareRequest}
use Rattle.vcd_compare.specs.declared.matching.Matching.{Matching}
use Rattle.vcd_compare.specs.declared.variables.PlannedVariable.{PlannedVariable}

-- ---- the variables of a capture before its changes come

-- the width of a planned variable, and of one of a capture
abbrev pub planned_width : PlannedVariable → ℕ
planned_width v = v.width

abbrev pub signal_width : SignalContents → ℕ
signal_width s = s.width

-- a capture has variables of these widths
abbrev pub HasWidths : List PlannedVariable → Contents → Type 0
HasWidths variables c = map planned_width variables ≡ map signal_width c.signals

-- a variable that is none
abbrev pub no_variable : PlannedVariable
no_variable = record { is_signal = false; width = 1; first = 0 }

-- the width of the variable at a position; of a position past them all 1
abbrev pub width_at : List PlannedVariable → ℕ → ℕ
width_at variables k = (slice_index_or variables k no_variable).width

-- ---- outcomes

-- by the names of two captures a request says this of them
abbrev pub MatchesNames : CompareRequest → (a b : Contents) → Matching → Type 0
MatchesNames r a b m = IsMatching r (full_names a.signals) (full_names b.signals) m

-- what is told of a variable of this width and its partner
abbrev pub outcome_with : (width : ℕ) → (others : List PlannedVariable) → (partner : Option ℕ)
    → Outcome
outcome_with width others None = outcomes.NoPartner
outcome_with width others (Some j) =
    if width == width_at others j then outcomes.Compared j else outcomes.OtherWidth j

-- what is told of the variable at a position
abbrev pub outcome_in : Matching → (variables others : List PlannedVariable) → ℕ → Outcome
outcome_in m variables others k =
    if slice_index_or m.by_name.items k false || slice_index_or m.by_mapped.items k false
    then outcome_with (width_at variables k) others (slice_index_or m.partners.items k None)
    else outcomes.NotAsked

-- ---- variables without a partner

-- the marks after one of a partner, if there is one
abbrev pub marked : List Bool → Option ℕ → List Bool
marked marks None = marks
marked marks (Some j) = slice_set marks j true

-- the marks after those of partners
abbrev pub all_marked : List Bool → List (Option ℕ) → List Bool
all_marked marks [] = marks
all_marked marks (p ∷ ps) = all_marked (marked marks p) ps

-- the positions at which a test holds, and a mark is not
abbrev pub unmarked : (tests marks : List Bool) → List ℕ
unmarked tests marks =
    filter (λ k. slice_index_or tests k false && not (slice_index_or marks k false))
    (range_with_len 0 (length tests))

-- ---- variables that are compared

-- two declared variables are signals of one size, or both are none
pub record AreComparable (declared others : List VariableDeclaration) (k j : ℕ) : Type 0 where
  pub own : VariableDeclaration
  pub partner : VariableDeclaration
  pub at_first : slice_get (all_variables declared) k ≡ Some own
  pub at_second : slice_get (all_variables others) j ≡ Some partner
  pub one_kind : is_kept_at declared k ≡ is_kept_at others j
  pub one_size : is_kept_at declared k ≡ true → own.size ≡ partner.size

-- the positions of a variable with this outcome and its partner, if they are compared
abbrev pub positions_of : (k : ℕ) → Outcome → List (ℕ × ℕ)
positions_of k (outcomes.Compared j) = (k, j) ∷ []
positions_of k outcomes.NotAsked = []
positions_of k outcomes.NoPartner = []
positions_of k (outcomes.OtherWidth j) = []

-- those of the first n variables
abbrev pub compared_positions : (n : ℕ) → List Outcome → List (ℕ × ℕ)
compared_positions n os =
    flat_map (λ k. positions_of k (slice_index_or os k outcomes.NotAsked)) (range_with_len 0 n)
