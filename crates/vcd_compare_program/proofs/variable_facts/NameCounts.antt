-- Names that are counted in a map.
use Rattle.std.proofs.Common.{◌≡◌, ◌∙◌, ◌+◌, ◌-◌, ◌<◌, ◌^◌, ◌++◌, ◌∷◌, [], ℕ, Bool, true, false, List, length, min}
use Rattle.std.proofs.Common.{Some, refl, sym, ap, arith}
use Rattle.std.proofs.Common.{if◌then◌else◌}
use Rattle.std.specs.Prelude.{bytes_eq, count_by}
use Rattle.std.specs.Global.{Vec}
use Rattle.std.specs.Map.{KeepsOthers}
use Rattle.std.specs.Option.{unwrap_or}
use Rattle.std.proofs.lemmas.Cmp.{nat_list_eq_equiv}
use Rattle.std.proofs.lemmas.List.Sums.{count_by-le-length, sum_by-append, sum_by-cons}
use Rattle.std.proofs.lemmas.Slice.Eq.{bytes_eq-Decides}
use Rattle.indexmap.specs.IndexMap.{IndexMap, Updates, get_by}
use Rattle.vcd_compare_program.specs.inside.Facts.{count_in, HaveCounted}

same_bytes : (a b : List ℕ) → bytes_eq a b ≡ true → a ≡ b
same_bytes a b = (bytes_eq-Decides a b).0

own_bytes : (a : List ℕ) → bytes_eq a a ≡ true
own_bytes a = (bytes_eq-Decides a a).1 refl

by_name : (P : Bool → Type 0) (a b : List ℕ) → (a ≡ b → P true) → (bytes_eq a b ≡ false → P false)
    → P (bytes_eq a b)
by_name P a b same other = grind (arith, same_bytes)

-- one name more
counted_last : (p : List ℕ → Bool) (names : List (List ℕ)) (x : List ℕ)
    → count_by p (names ++ x ∷ []) ≡ count_by p names + (if p x then 1 else 0)
counted_last p names x = sum_by-append (λ y. if p y then 1 else 0) names (x ∷ [])
    ∙ ap (λ n. count_by p names + n) (sum_by-cons (λ y. if p y then 1 else 0) x [] ∙ omega arith)

module _ {S : Type 0} (old new : IndexMap (Vec ℕ) ℕ S) (key : Vec ℕ) (before after : ℕ)
    (puts : Updates (λ (x : Vec ℕ) (y : Vec ℕ). bytes_eq x.items y.items) old new key (Some after)) where
  found_elsewhere : (name : List ℕ) → bytes_eq name key.items ≡ false
      → get_by (λ (k : Vec ℕ). bytes_eq name k.items) new
      ≡ get_by (λ (k : Vec ℕ). bytes_eq name k.items) old
  unfolding KeepsOthers
  found_elsewhere name apart = grind (arith, nat_list_eq_equiv)

  -- a name is counted once more
  pub counted_more : (names : List (List ℕ)) → length names < 2 ^ 64 - 1 → before ≡ count_in old key.items
      → after ≡ min (before + 1) (2 ^ 64 - 1) → HaveCounted names old → HaveCounted (names ++ key.items ∷ []) new
  counted_more names few was is counted name = by_name
      (λ b. count_in new name ≡ count_by (bytes_eq name) names + (if b then 1 else 0)) name key.items
      (λ same.
      let here : count_in new name ≡ after =
      ap (count_in new) same ∙ ap (λ o. unwrap_or o 0) puts.1 in
      let count : count_in old key.items ≡ count_by (bytes_eq name) names =
      ap (count_in old) (sym same) ∙ counted name in
      let most = count_by-le-length (bytes_eq name) names in
      omega (arith, here, count, most, was, is, few))
      (λ apart. ap (λ o. unwrap_or o 0) (found_elsewhere name apart) ∙ counted name ∙ omega arith)
      ∙ sym (counted_last (bytes_eq name) names key.items)
