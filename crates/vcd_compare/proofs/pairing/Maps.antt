-- Positions by names, in a map.
use Rattle.std.proofs.Common.{◌≡◌, ℕ, Bool, true, false, if◌then◌else◌, List, Some, ap, ◌∙◌, arith}
use Rattle.std.specs.Prelude.{bytes_eq}
use Rattle.std.specs.Global.{Vec}
use Rattle.std.specs.Map.{KeepsOthers}
use Rattle.std.proofs.lemmas.Cmp.{nat_list_eq_equiv}
use Rattle.std.proofs.lemmas.Slice.Eq.{bytes_eq-Decides}
use Rattle.indexmap.specs.IndexMap.{IndexMap, Updates}
use Rattle.vcd_compare.specs.inside.Pairing.{index_in}

same_bytes : (a b : List ℕ) → bytes_eq a b ≡ true → a ≡ b
same_bytes a b = (bytes_eq-Decides a b).0

by_name : (P : Bool → Type 0) (a b : List ℕ) → (a ≡ b → P true) → (bytes_eq a b ≡ false → P false)
    → P (bytes_eq a b)
by_name P a b same other = grind (arith, same_bytes)

module _ {S : Type 0} (old new : IndexMap (Vec ℕ) ℕ S) (k : Vec ℕ) (w : ℕ)
    (puts : Updates (λ (x : Vec ℕ) (y : Vec ℕ). bytes_eq x.items y.items) old new k (Some w)) where
  put_elsewhere : (name : List ℕ) → bytes_eq name k.items ≡ false → index_in new name ≡ index_in old name
  unfolding KeepsOthers
  put_elsewhere name apart = grind (arith, nat_list_eq_equiv)

  -- a name has its new position, and the others keep theirs
  pub index_put : (name : List ℕ) → index_in new name ≡ (if bytes_eq name k.items then Some w else index_in old name)
  index_put name = by_name (λ b. index_in new name ≡ (if b then Some w else index_in old name)) name k.items
      (λ same. ap (index_in new) same ∙ puts.1) (put_elsewhere name)
