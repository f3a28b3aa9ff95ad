-- What the target of a code says of what is heard of its changes.
use Rattle.std.proofs.Common.{◌≡◌, ℕ, List, [], ◌∷◌, Option, Some, None, refl, sym, ap, subst, ◌∙◌}
use Rattle.std.proofs.Common.{arith}
use Rattle.std.specs.Option.{option_map}
use Rattle.std.specs.Prelude.{slice_get}
use Rattle.std.proofs.lemmas.Option.{slice_get-map, slice_get_within}
use Rattle.vcd_text.specs.Grammar.{VariableDeclaration, ValueChange, ParseState, kept_variables}
use Rattle.vcd_text.specs.Grammar.{variable_of, is_skipped}
use Rattle.vcd_text.specs.HeardChanges.{HeardChange, first_with, heard_value, heard_word, skipped_variables}
use Rattle.vcd_text.specs.inside.reading.CodeTargets.{code_target}
use Rattle.vcd_text.specs.inside.reading.Log.{logged}
use Rattle.vcd_text.specs.inside.reading.Part.{seen_state, seen_tick}
use Rattle.vcd_text.specs.inside.reading.SkippedVariables.{KnowsFirsts}
use Rattle.vcd_text.specs.inside.reading.Variables.{VariablesMatch, TargetMatches, target_of, without_code, declaration}
use Rattle.vcd_text.specs.declared.reading.code_targets.CodeTarget.{CodeTarget}
use Rattle.vcd_text.specs.declared.reading.code_targets.CodeTarget.TheVariants.{Kept, Undeclared, Skipped}
use Rattle.vcd_text.specs.declared.reading.code_targets.CodeTargets.{CodeTargets}
use Rattle.vcd_text.specs.declared.reading.heard_changes.ChangeTarget.TheVariants as targets
use Rattle.vcd_text.specs.declared.reading.part.Part.{Part}
use Rattle.vcd_text.specs.declared.reading.variables.Variable.{Variable}
use Rattle.vcd_text.specs.declared.reading.variables.Variables.{Variables}
use Rattle.vcd_text.proofs.shared.FirstVariables.{first_found, first_taken}

-- ---- the variable at the target of a code

same_kept : (w u p q : ℕ) → Kept w p ≡ Kept u q → (w ≡ u) × (p ≡ q)
same_kept w u p q e = (cc, cc)

from_mapped : {A B : Type 0} (f : A → B) (o : Option A) (b : B) → option_map f o ≡ Some b
    → (a : A) × (o ≡ Some a)
from_mapped f None b e = absurd (cc)
from_mapped f (Some a) b e = (a, refl)

-- the variable at a position of those declared
pub variable_at : (vs : Variables) (c : ParseState) → VariablesMatch vs c → (k : ℕ) (d : VariableDeclaration)
    → slice_get (kept_variables c.declared) k ≡ Some d → (v : Variable) × (slice_get vs.kept.items k ≡ Some v)
variable_at vs c m k d at = from_mapped declaration (slice_get vs.kept.items k) (without_code d)
    (sym (slice_get-map declaration vs.kept.items k)
    ∙ sym (ap (λ (ds : List VariableDeclaration). slice_get ds k) m.kept)
    ∙ slice_get-map without_code (kept_variables c.declared) k ∙ ap (option_map without_code) at)

-- it is the first one with the code
pub first_is : (vs : Variables) (c : ParseState) → VariablesMatch vs c → (code : List ℕ) (width position : ℕ)
    → target_of vs code ≡ Kept width position → first_with code (kept_variables c.declared) ≡ position
first_is vs c m code width position target =
    let (own, there, same) = m.owners code width position target in
    let first = first_found code (kept_variables c.declared) position own there same in
    let (v, at) = variable_at vs c m _ first.found first.at_first in
    let has = m.firsts _ v at in
    let one = same_kept _ _ _ _
    (sym (has.owned first.found first.at_first) ∙ ap (target_of vs) first.own_code ∙ target) in
    omega (arith, first.early, has.no_later, one.1)

-- so a kept variable has the position of the first one with its code
pub first_of_variable : (vs : Variables) (c : ParseState) → VariablesMatch vs c → (position : ℕ) (v : Variable)
    (d : VariableDeclaration) → slice_get vs.kept.items position ≡ Some v
    → slice_get (kept_variables c.declared) position ≡ Some d → v.first ≡ first_with d.code (kept_variables c.declared)
first_of_variable vs c m position v d at there =
    sym (first_is vs c m d.code v.wave.width v.first ((m.firsts position v at).owned d there))

-- ---- what is heard of a change

module _ (vs : Variables) (part : Part) (c : ParseState) (seen : List ValueChange) (code text : List ℕ)
    (m : VariablesMatch vs (seen_state part c seen)) where
  abbrev Agrees : CodeTarget → Option VariableDeclaration → Type 0
  Agrees t o = TargetMatches vs.kept.items (logged vs.log.items) seen (seen_tick part c.tick) code t o

  agrees : (t : CodeTarget) → target_of vs code ≡ t → Agrees t (variable_of c code)
  agrees t is = subst (λ t. Agrees t (variable_of c code)) is (m.targets_agree code)

  -- the change of a kept variable
  pub kept_heard : (width position : ℕ) → target_of vs code ≡ Kept width position
      → record { tick = c.tick; target = targets.Kept position; text = text } ∷ []
      ≡ heard_value c code text (variable_of c code)
  kept_heard width position is = by_declared (variable_of c code) (agrees (Kept width position) is)
    where
      by_declared : (o : Option VariableDeclaration) → Agrees (Kept width position) o
          → record { tick = c.tick; target = targets.Kept position; text = text } ∷ [] ≡ heard_value c code text o
      by_declared None matches = absurd matches
      by_declared (Some d) (keeps, size, has) =
          let first = sym (first_is vs (seen_state part c seen) m code width position is) in
          rw keeps (λ i. record { tick = c.tick; target = targets.Kept (first i); text = text } ∷ [])

  -- no word of a real number or a string is heard of it
  pub kept_word : (width position : ℕ) → target_of vs code ≡ Kept width position
      → heard_word c code text (variable_of c code) ≡ []
  kept_word width position is = by_declared (variable_of c code) (agrees (Kept width position) is)
    where
      by_declared : (o : Option VariableDeclaration) → Agrees (Kept width position) o → heard_word c code text o ≡ []
      by_declared None matches = absurd matches
      by_declared (Some d) (keeps, size, has) = rw keeps refl

  -- nothing is heard of another code
  pub unknown_heard : target_of vs code ≡ Undeclared
      → (heard_value c code text (variable_of c code) ≡ []) × (heard_word c code text (variable_of c code) ≡ [])
  unknown_heard is = by_declared (variable_of c code) (agrees Undeclared is)
    where
      by_declared : (o : Option VariableDeclaration) → Agrees Undeclared o
          → (heard_value c code text o ≡ []) × (heard_word c code text o ≡ [])
      by_declared None matches = (refl, refl)
      by_declared (Some d) matches = absurd matches

  -- the change of a skipped variable
  pub skipped_heard : (firsts : CodeTargets ℕ) → KnowsFirsts firsts (skipped_variables c.declared)
      → target_of vs code ≡ Skipped → (heard : List HeardChange)
      → heard ≡ record { tick = c.tick; target = targets.Skipped (code_target firsts code); text = text } ∷ []
      → (heard ≡ heard_value c code text (variable_of c code)) × (heard ≡ heard_word c code text (variable_of c code))
  skipped_heard firsts knows is heard one = by_declared (variable_of c code) refl (agrees Skipped is)
    where
      by_declared : (o : Option VariableDeclaration) → variable_of c code ≡ o → Agrees Skipped o
          → (heard ≡ heard_value c code text o) × (heard ≡ heard_word c code text o)
      by_declared None found matches = absurd matches
      by_declared (Some d) found skips =
          let first : code_target firsts code ≡ first_with code (skipped_variables c.declared) =
          knows.known code (slice_get_within (skipped_variables c.declared) _ d
          (first_taken is_skipped code c.declared d found skips)) in
          let same : heard ≡ heard_value c code text (Some d) = rw skips (one
          ∙ (λ i. record { tick = c.tick; target = targets.Skipped (first i); text = text } ∷ [])) in
          (same, rw skips (rw skips at same))
