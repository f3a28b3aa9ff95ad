-- The targets of codes.
use Rattle.std.proofs.Common.{arith, ◌≡◌, ℕ, Bool, true, false, if◌then◌else◌, List, [], ◌∷◌, ◌++◌, find, Option, None}
use Rattle.std.proofs.Common.{Some, refl, ap, ◌∙◌}
use Rattle.std.specs.Prelude.{bytes_eq, unwrap_or}
use Rattle.std.specs.Option.{option_or}
use Rattle.std.specs.Global.{Vec}
use Rattle.std.specs.Map.{KeepsOthers}
use Rattle.std.proofs.lemmas.Cmp.{nat_list_eq_equiv}
use Rattle.std.proofs.lemmas.Slice.Eq.{bytes_eq-Decides}
use Rattle.std.proofs.lemmas.List.Folds.{find-append}
use Rattle.indexmap.specs.IndexMap.{IndexMap, Updates}
use Rattle.vcd_text.specs.Grammar.{VariableDeclaration, ValueChange, is_skipped}
use Rattle.vcd_text.specs.inside.reading.Variables.{HasValueChanges, TargetMatches}
use Rattle.vcd_text.specs.declared.reading.log.LoggedChange.{LoggedChange}
use Rattle.vcd_text.specs.declared.reading.code_targets.CodeTarget.{CodeTarget}
use Rattle.vcd_text.specs.declared.reading.code_targets.CodeTarget.TheVariants.{Kept}
use Rattle.vcd_text.specs.inside.reading.CodeTargets.{in_map}
use Rattle.vcd_text.specs.declared.reading.variables.Variable.{Variable}

-- ---- codes

pub same_code : (a b : List ℕ) → bytes_eq a b ≡ true → a ≡ b
same_code a b = (bytes_eq-Decides a b).0

pub own_code : (a : List ℕ) → bytes_eq a a ≡ true
own_code a = (bytes_eq-Decides a a).1 refl

-- a code is another one, or the same
pub by_code : (P : Bool → Type 0) (a b : List ℕ) → (a ≡ b → P true) → (bytes_eq a b ≡ false → P false)
    → P (bytes_eq a b)
by_code P a b same other = grind (arith, same_code)

-- ---- a code that is put into the map

module _ {T S : Type 0} (old new : IndexMap (Vec ℕ) T S) (k : Vec ℕ) (w absent : T)
    (puts : Updates (λ (x : Vec ℕ) (y : Vec ℕ). bytes_eq x.items y.items) old new k (Some w)) where
  put_elsewhere : (key : List ℕ) → bytes_eq key k.items ≡ false → in_map absent new key ≡ in_map absent old key
  unfolding KeepsOthers
  put_elsewhere key apart = grind (arith, nat_list_eq_equiv)

  -- then it has its new target, and the others keep theirs
  pub target_put : (key : List ℕ) → in_map absent new key ≡ (if bytes_eq key k.items then w else in_map absent old key)
  target_put key = by_code (λ b. in_map absent new key ≡ (if b then w else in_map absent old key)) key k.items
      (λ same. ap (in_map absent new) same ∙ ap (λ o. unwrap_or o absent) puts.1) (put_elsewhere key)

-- ---- a code against the variables that were declared

module _ (vs : List Variable) (log : ℕ → List LoggedChange) (value_changes : List ValueChange) (tick : ℕ)
    (code : List ℕ) where
  -- the target of a kept variable has its wave
  pub stands_kept : (declared : Option VariableDeclaration) (width position : ℕ)
      → TargetMatches vs log value_changes tick code (Kept width position) declared
      → (d : VariableDeclaration) × (declared ≡ Some d) × (is_skipped d ≡ false) × (d.size ≡ width)
      × HasValueChanges vs log position code width value_changes tick
  stands_kept declared width position s = grind arith

-- a fact about the waves in one list is one about another
pub stands_moved : (vs ws : List Variable) (log rest : ℕ → List LoggedChange) (rs ss : List ValueChange)
    (early late : ℕ) (code : List ℕ) (target : CodeTarget) (declared : Option VariableDeclaration)
    → ((width position : ℕ) → target ≡ Kept width position → HasValueChanges vs log position code width rs early
    → HasValueChanges ws rest position code width ss late)
    → TargetMatches vs log rs early code target declared → TargetMatches ws rest ss late code target declared
stands_moved vs ws log rest rs ss early late code target declared h11 h12 = grind arith

-- the first variable of a code, with one more declared
pub found_with : (code : List ℕ) (ds : List VariableDeclaration) (d : VariableDeclaration)
    → find (λ e. bytes_eq code e.code) (ds ++ d ∷ [])
    ≡ option_or (find (λ e. bytes_eq code e.code) ds) (if bytes_eq code d.code then Some d else None)
found_with code ds d = find-append (λ (e : VariableDeclaration). bytes_eq code e.code) ds (d ∷ [])
