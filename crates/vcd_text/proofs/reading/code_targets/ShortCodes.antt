-- Each index in the table of short codes is that of one code.
use Rattle.std.proofs.Common.{◌≡◌, ℕ, ◌+◌, ◌*◌, ◌<◌, ◌==◌, false, true, List, [], ◌∷◌, Option, None}
use Rattle.std.proofs.Common.{Some, refl, sym, ap, ◌∙◌, arith, if◌then◌else◌, inl, inr}
use Rattle.std.specs.Prelude.{codes, bytes_eq, slice_index_or}
use Rattle.std.specs.Global.{Vec}
use Rattle.std.proofs.lemmas.Bool.{cases_eq, eq-eqb, ne_eqb}
use Rattle.vcd_text.specs.inside.reading.CodeTargets.{index_of_code, code_target, target_at_index}
use Rattle.vcd_text.specs.declared.reading.code_targets.CodeTargets.{CodeTargets}
use Rattle.vcd_text.proofs.reading.code_targets.Targets.{by_code, own_code}

-- ---- one code

-- a code whose bytes are 1 to 127 is spelled by its index
abbrev IsSpelled : List ℕ → ℕ → Type 0
IsSpelled [] index = index ≡ 0
IsSpelled (b ∷ bs) index = (0 < b) × (b < 128) × ((rest : ℕ) × IsSpelled bs rest × (index ≡ b + 128 * rest))

one_spelled : (a b : List ℕ) (index : ℕ) → IsSpelled a index → IsSpelled b index → a ≡ b
one_spelled [] [] index here there = refl
one_spelled [] (b ∷ bs) index here (some, few, (rest, following, is)) = absurd (omega (arith, here, some, is))
one_spelled (a ∷ xs) [] index (some, few, (rest, following, is)) there = absurd (omega (arith, there, some, is))
one_spelled (a ∷ xs) (b ∷ bs) index (some, few, (rest, following, is)) (some_b, few_b, (rest_b, after_b, is_b)) =
    let first : a ≡ b = omega (arith, few, few_b, is, is_b) in
    let same : rest_b ≡ rest = omega (arith, few, few_b, is, is_b) in
    let others = one_spelled xs bs rest following (rw same at after_b) in
    λ i. first i ∷ others i

spelled : (code : List ℕ) (index : ℕ) → index_of_code code ≡ Some index → IsSpelled code index
spelled [] index has = let never : None ≡ Some index = has in absurd (cc)
spelled (a ∷ []) index has = grind arith
spelled (a ∷ b ∷ []) index has = grind arith
spelled (a ∷ b ∷ c ∷ []) index has = grind arith
spelled (a ∷ b ∷ c ∷ d ∷ ds) index has = let never : None ≡ Some index = has in absurd (cc)

one_code : (a b : List ℕ) (index : ℕ) → index_of_code a ≡ Some index → index_of_code b ≡ Some index → a ≡ b
one_code a b index here there = one_spelled a b index (spelled a index here) (spelled b index there)

-- ---- a code that is put into the table

module _ {T : Type 0} (old : CodeTargets T) (table : Vec T) (code : List ℕ) (index : ℕ) (target : T)
    (has : index_of_code code ≡ Some index)
    (puts : (i : ℕ) → slice_index_or table.items i old.absent
    ≡ (if i == index then target else slice_index_or old.short.items i old.absent)) where
  put_here : code_target (record old { short = table }) code ≡ target
  put_here = grind (arith, eq-eqb)

  put_elsewhere : (key : List ℕ) → bytes_eq key code ≡ false → (o : Option ℕ) → index_of_code key ≡ o
      → target_at_index (record old { short = table }) key o ≡ target_at_index old key o
  put_elsewhere key other None at = refl
  put_elsewhere key other (Some i) at = elim (cases_eq i index) [
    | inl same ↦
        let is : key ≡ code = one_code key code index (at ∙ ap (λ n. Some n) same) has in
        let both : true ≡ false = sym (own_code code) ∙ ap (λ k. bytes_eq k code) (sym is) ∙ other in absurd (cc)
    | inr apart ↦ grind (arith, ne_eqb)
  ]

  -- then it has its new target, and the others keep theirs
  pub short_put : (key : List ℕ) → code_target (record old { short = table }) key
      ≡ (if bytes_eq key code then target else code_target old key)
  short_put key = by_code (λ b. code_target (record old { short = table }) key
      ≡ (if b then target else code_target old key)) key code (λ same. ap (code_target (record old { short = table }))
      same ∙ put_here) (λ other. put_elsewhere key other (index_of_code key) refl)

-- worked cases: 33 for `!`, and 33 + 128 * 34 for `!"`; none for no byte, and for four
one_byte : index_of_code (codes "!") ≡ Some 33
one_byte = refl

two_bytes : index_of_code (codes "!\"") ≡ Some 4385
two_bytes = refl

no_byte : index_of_code [] ≡ None
no_byte = refl

four_bytes : index_of_code (codes "!!!!") ≡ None
four_bytes = refl
