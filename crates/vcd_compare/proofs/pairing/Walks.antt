-- The walks over names: from the last one back, by which they are listed, and on from the first, by which they get
-- their partners.
use Rattle.std.proofs.Common.{◌≡◌, ℕ, suc, ◌+◌, ◌<◌, Bool, true, false, List, [], ◌∷◌, ◌++◌, length, take}
use Rattle.std.proofs.Common.{refl, sym, ap, subst, ◌∙◌, inl, inr, arith, Option, Some, None, if◌then◌else◌}
use Rattle.std.proofs.Common.{map, get_or, length-append}
use Rattle.std.proofs.Math.Seq.{get_or-append_seam}
use Rattle.std.proofs.lemmas.List.{length-map, map-append}
use Rattle.std.proofs.lemmas.List.FromFn.{get_or-map-range_with_len, length-map-range_with_len}
use Rattle.std.specs.Prelude.{bytes_eq, count_by, slice_index_or, IfSome}
use Rattle.std.specs.Global.{Vec}
use Rattle.std.specs.List.{slice_get, range_with_len}
use Rattle.std.proofs.lemmas.Bool.{cases_Bool}
use Rattle.std.proofs.lemmas.List.Sums.{count_by_more_no, count_by_more_yes}
use Rattle.std.proofs.lemmas.Slice.Eq.{bytes_eq-Decides}
use Rattle.indexmap.specs.IndexMap.{IndexMap}
use Rattle.vcd_compare.specs.Pairs.{name_at, namesakes_before, partner_of}
use Rattle.vcd_compare.specs.inside.Pairing.{index_in, positions_from, next_positions, next_partner, HasNamesakesFrom}
use Rattle.vcd_compare.specs.inside.Pairing.{partner_after, IsLast, texts}
use Rattle.vcd_compare.proofs.pairing.Positions.{partner_by_position, nth_from, next_is, next_length}

-- ==== back

first_by : (b : Bool) (at : ℕ) (o : Option ℕ) (positions : List ℕ) → o ≡ slice_get positions 0
    → (if b then Some at else o) ≡ slice_get (if b then at ∷ positions else positions) 0
first_by true at o positions is = refl
first_by false at o positions is = is

-- a name before those that are listed
pub listed_more : {S : Type 0} (at : ℕ) (names : List (List ℕ)) (x : List ℕ) (old new : IndexMap (Vec ℕ) ℕ S)
    (next more : List (Option ℕ)) (later : Option ℕ) → HasNamesakesFrom (suc at) names old next
    → ((name : List ℕ) → index_in new name ≡ (if bytes_eq name x then Some at else index_in old name))
    → later ≡ index_in old x → more ≡ next ++ later ∷ []
    → HasNamesakesFrom at (x ∷ names) new more
listed_more at names x old new next more later is puts later_is more_is = record {
  first_is = λ name. puts name
      ∙ first_by (bytes_eq name x) at (index_in old name) (positions_from name (suc at) names) (is.first_is name);
  next_is = more_is ∙ λ i. is.next_is i ++ (later_is ∙ is.first_is x) i ∷ [];
}

-- ==== on

module _ (names others : List (List ℕ)) (i : ℕ) where
  named_alike : (k : ℕ) (name : List ℕ) → bytes_eq name (name_at names k) ≡ true → name ≡ name_at names k
  named_alike k name = (bytes_eq-Decides name (name_at names k)).0

  -- the partner of the next signal
  pub next_by : (before first : Option ℕ) (next partners : List (Option ℕ))
      → IsLast names i (name_at names i) before → next ≡ next_positions 0 others
      → first ≡ slice_get (positions_from (name_at names i) 0 others) 0
      → ((k : ℕ) → k < i → slice_index_or partners k None ≡ partner_of names others k)
      → partner_after next partners before first ≡ partner_of names others i
  next_by None first next partners none next_is' first_is each =
      first_is
      ∙ ap (slice_get (positions_from (name_at names i) 0 others)) (sym none)
      ∙ sym (partner_by_position names others i)
  next_by (Some k) first next partners (less, named, count) next_is' first_is each =
      let same : name_at names i ≡ name_at names k = named_alike k (name_at names i) named in
      let more : suc (namesakes_before names k) ≡ namesakes_before names i =
      let alike : namesakes_before names k ≡ count_by (bytes_eq (name_at names i)) (take k names) =
      ap (λ x. count_by (bytes_eq x) (take k names)) (sym same) in omega (arith, alike, count) in
      (λ j. next_partner (next_is' j) (each k less j))
      ∙ next_is (name_at names k) (namesakes_before names k) others (partner_of names others k)
      (sym (partner_by_position names others k))
      ∙ (λ j. slice_get (positions_from (sym same j) 0 others) (more j))
      ∙ sym (partner_by_position names others i)

  listed_within : (k : ℕ) (o : Option ℕ)
      → slice_get (positions_from (name_at names k) 0 others) (namesakes_before names k) ≡ o
      → IfSome o (λ j. j < length (next_positions 0 others))
  listed_within k None is = tt
  listed_within k (Some j) is =
      let (at, at_is, nth) = nth_from (name_at names k) (namesakes_before names k) 0 others j is in
      let within = nth.within in
      omega (arith, next_length 0 others)

  -- a partner is listed
  pub partner_within : (k : ℕ) → IfSome (partner_of names others k) (λ j. j < length (next_positions 0 others))
  partner_within k = listed_within k (partner_of names others k) (sym (partner_by_position names others k))

  last_stays : (name : List ℕ) (old : Option ℕ)
      → count_by (bytes_eq name) (take (i + 1) names) ≡ count_by (bytes_eq name) (take i names)
      → IsLast names i name old → IsLast names (i + 1) name old
  last_stays name None same none = same ∙ none
  last_stays name (Some k) same (less, named, count) = (omega arith, named, count ∙ sym same)

  -- the last signal of each name
  pub last_more : (name : List ℕ) (old : Option ℕ) → i < length names → IsLast names i name old
      → IsLast names (i + 1) name (if bytes_eq name (name_at names i) then Some i else old)
  last_more name old within is =
      elim (cases_Bool (bytes_eq name (name_at names i))) [
        | inl named ↦ subst (λ (b : Bool). IsLast names (i + 1) name (if b then Some i else old)) (sym named) (
          omega arith,
          named,
          sym (count_by_more_yes (bytes_eq name) names i [] within named),
        )
        | inr other ↦ subst (λ (b : Bool). IsLast names (i + 1) name (if b then Some i else old)) (sym other)
            (last_stays name old (count_by_more_no (bytes_eq name) names i [] within other) is)
      ]

  -- those so far
  pub each_partner : (partners : List (Option ℕ)) → partners ≡ map (partner_of names others) (range_with_len 0 i)
      → (k : ℕ) → k < i → slice_index_or partners k None ≡ partner_of names others k
  each_partner partners is k less =
      ap (λ l. get_or l k None) is
      ∙ get_or-map-range_with_len (partner_of names others) 0 i k k None less (omega arith)

  -- the last signal of the next name is among those so far, and so is its partner
  pub before_within : (name : List ℕ) (before : Option ℕ) (partners : List (Option ℕ))
      → partners ≡ map (partner_of names others) (range_with_len 0 i) → IsLast names i name before
      → IfSome before (λ k. k < length partners)
  before_within name None partners is last = tt
  before_within name (Some k) partners is (less, named, count) =
      subst (λ n. k < n)
      (sym (ap (λ (l : List (Option ℕ)). length l) is ∙ length-map-range_with_len (partner_of names others) 0 i)) less

  pub before_listed : (name : List ℕ) (before : Option ℕ) (partners next : List (Option ℕ))
      → partners ≡ map (partner_of names others) (range_with_len 0 i) → next ≡ next_positions 0 others
      → IsLast names i name before
      → IfSome before (λ k. IfSome (slice_index_or partners k None) (λ j. j < length next))
  before_listed name None partners next is next_is last = tt
  before_listed name (Some k) partners next is next_is (less, named, count) =
      subst (λ o. IfSome o (λ j. j < length next)) (sym (each_partner partners is k less))
      (subst (λ (l : List (Option ℕ)). IfSome (partner_of names others k) (λ j. j < length l)) (sym next_is)
      (partner_within k))

-- the name where a list of texts is taken apart
pub name_at_seam : (all ys : List (Vec ℕ)) (x : Vec ℕ) (zs : List (Vec ℕ)) → all ≡ ys ++ x ∷ zs
    → (name_at (texts all) (length ys) ≡ x.items) × (length ys < length (texts all))
name_at_seam all ys x zs is =
    let split : texts all ≡ texts ys ++ x.items ∷ texts zs =
    ap texts is ∙ map-append (λ (v : Vec ℕ). v.items) ys (x ∷ zs) in
    let size : length (texts ys) ≡ length ys = length-map ys (λ (v : Vec ℕ). v.items) in (
      ap (λ l. get_or l (length ys) []) split
          ∙ ap (λ n. get_or (texts ys ++ x.items ∷ texts zs) n []) (sym size)
          ∙ get_or-append_seam (texts ys) x.items (texts zs) [],
      subst (λ (l : List (List ℕ)). length ys < length l) (sym split)
          (omega (arith, size, length-append (texts ys) (x.items ∷ texts zs))),
    )
