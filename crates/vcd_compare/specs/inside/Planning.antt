-- What is planned of a comparison before the changes come.
use Rattle.std.specs.Prelude.{◌≡◌, ℕ, ◌+◌, ◌-◌, ◌^◌, min, Bool, true, false, not, List, [], ◌++◌}
use Rattle.std.specs.Prelude.{map, length, Some, slice_get}
use Rattle.std.specs.List.{list_any, position}
use Rattle.std.specs.Option.{unwrap_or}
use Rattle.vcd_core.specs.Contents.{Contents}
use Rattle.vcd_core.specs.Names.{full_names}
use Rattle.vcd_core.specs.Value.{all_x}
use Rattle.vcd_text.specs.AsDeclared.{declared_name}
use Rattle.vcd_text.specs.Grammar.{VariableDeclaration, ParseState, kept_variables}
use Rattle.vcd_text.specs.HeardChanges.{first_with, skipped_variables}
use Rattle.vcd_text.specs.declared.reading.skipped_variables.SkippedVariable.{SkippedVariable}
use Rattle.vcd_part.specs.Requests.{texts}
use Rattle.vcd_compare.specs.Captures.{fits_map, outcomes_of, only_in_second}
use Rattle.vcd_compare.specs.Comparisons.{is_unmet}
use Rattle.vcd_compare.specs.Variables.{compared_width, listed_width}
use Rattle.vcd_compare.specs.inside.Outcomes.{HasWidths, AreComparable}
use Rattle.vcd_compare.specs.inside.Pairs.{AreListed}
use Rattle.vcd_compare.specs.inside.SignalPair.{PairWaves, letters, words}
use Rattle.vcd_compare.specs.inside.Walk.{ArePlanned, IsBegun, all_variables}
use Rattle.vcd_compare.specs.declared.wave_pair.Bounds.{Bounds}
use Rattle.vcd_compare.specs.declared.comparison.Outcome.{Outcome}
use Rattle.vcd_compare.specs.declared.comparison.Outcome.TheVariants as outcomes
use Rattle.vcd_compare.specs.declared.pairs.Pairs.{Pairs}
use Rattle.vcd_compare.specs.declared.pairs.SignalPair.{SignalPair}
use Rattle.vcd_compare.specs.declared.planning.Plan.{Plan}
use Rattle.vcd_compare.specs.declared.variables.PlannedVariable.{PlannedVariable}
use Rattle.vcd_compare.specs.declared.request.CompareRequest.{CompareRequest}

-- ---- the variables of a file

-- the full names of all variables
abbrev pub declared_names : (declared : List VariableDeclaration) → List (List ℕ)
declared_names declared = map declared_name (all_variables declared)

-- the full names of skipped variables of a stream
abbrev pub listed_names : List SkippedVariable → List (List ℕ)
listed_names vs = map (λ (v : SkippedVariable). v.name) vs

-- what is known of a signal, and of a skipped variable, before the changes come
abbrev pub planned_signal : (declared : List VariableDeclaration) → VariableDeclaration
    → PlannedVariable
planned_signal declared d = record {
  is_signal = true;
  width = d.size;
  first = first_with d.code (kept_variables declared);
}

abbrev pub planned_skipped : (declared : List VariableDeclaration) → VariableDeclaration
    → PlannedVariable
planned_skipped declared d = record {
  is_signal = false;
  width = compared_width d;
  first = length (kept_variables declared) + first_with d.code (skipped_variables declared);
}

-- the same of a skipped variable of a stream, after `count` signals
abbrev pub planned_listed : (count : ℕ) → SkippedVariable → PlannedVariable
planned_listed count v = record {
  is_signal = false;
  width = listed_width v;
  first = min (count + v.first) (2 ^ 64 - 1);
}

-- what is known of all variables
abbrev pub planned_variables : (declared : List VariableDeclaration) → List PlannedVariable
planned_variables declared = map (planned_signal declared) (kept_variables declared)
    ++ map (planned_skipped declared) (skipped_variables declared)

-- a capture has the variables that a state declares, whatever their changes are
pub record HasDeclared (s : ParseState) (c : Contents) : Type 0 where
  pub names : declared_names s.declared ≡ full_names c.signals
  pub widths : HasWidths (planned_variables s.declared) c

-- ---- the plan

-- this is told of two captures, whatever the changes of their variables are
pub record IsPlanOf (r : CompareRequest) (a b : Contents) (p : Plan) : Type 0 where
  pub outcomes : p.outcomes.items ≡ outcomes_of r a b
  pub only_in_second : p.only_in_second.items ≡ only_in_second r a b
  pub unmet_pattern : p.unmet_pattern
      ≡ position (is_unmet r a b) (unwrap_or (texts r.keep) [])
  pub unmet_map : p.unmet_map
      ≡ position (λ m. not (list_any (fits_map m) (full_names a.signals))) r.maps.now

-- all variables that are compared by these outcomes can be
abbrev pub AllComparable : (declared others : List VariableDeclaration) → List Outcome → Type 0
AllComparable declared others os = (k j : ℕ) → slice_get os k ≡ Some (outcomes.Compared j)
    → AreComparable declared others k j

-- ---- the pairs

-- two waves at the first tick of the window: of signals all x, of other variables without a word
abbrev pub AreFirstWaves : Bounds → (is_signal : Bool) → (width : ℕ) → PairWaves → Type 0
AreFirstWaves bounds is_signal width (letters p) =
    (is_signal ≡ true) × IsBegun bounds (all_x width) p
AreFirstWaves bounds is_signal width (words p) = (is_signal ≡ false) × IsBegun bounds [] p

-- the positions of two variables that are compared
abbrev pub pair_positions : SignalPair → ℕ × ℕ
pair_positions p = (p.first, p.second)

-- the pairs of two files that declare these variables, with these outcomes, up to one
pub record ArePairsOf (bounds : Bounds) (declared others : List VariableDeclaration) (pairs : Pairs)
    : Type 0 where
  pub planned : ArePlanned bounds declared others pairs.all.items
  pub listed : AreListed (length (all_variables declared)) (length (all_variables others)) pairs
