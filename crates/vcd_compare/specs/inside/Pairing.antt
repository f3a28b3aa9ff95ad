-- The variables of a capture by their names: the first of each, and the next of each one.
use Rattle.std.specs.Prelude.{◌≡◌, ℕ, suc, ◌+◌, ◌-◌, ◌<◌, bytes_eq, true, Option, Some, None, List}
use Rattle.std.specs.Prelude.{[], ◌∷◌, ◌++◌, map, length, take, count_by, slice_index_or}
use Rattle.std.specs.Prelude.{if◌then◌else◌}
use Rattle.std.specs.List.{slice_get}
use Rattle.std.specs.Global.{Vec}
use Rattle.indexmap.specs.IndexMap.{IndexMap, get_by}
use Rattle.vcd_compare.specs.Pairs.{name_at}
use Rattle.vcd_compare.specs.declared.pairing.Namesakes.{Namesakes}

-- texts in memory
abbrev pub texts : List (Vec ℕ) → List (List ℕ)
texts vs = map (λ v. v.items) vs

-- the position of a name in a map
abbrev pub index_in : {S : Type 0} → IndexMap (Vec ℕ) ℕ S → (name : List ℕ) → Option ℕ
index_in positions name = get_by (λ key. bytes_eq name key.items) positions

-- the positions of the variables with a name, of names that begin at a position
abbrev pub positions_from : (name : List ℕ) → (at : ℕ) → List (List ℕ) → List ℕ
positions_from name at [] = []
positions_from name at (x ∷ xs) =
    if bytes_eq name x then at ∷ positions_from name (suc at) xs
    else positions_from name (suc at) xs

-- the next position with the name of each variable, that of the last variable first
abbrev pub next_positions : (at : ℕ) → List (List ℕ) → List (Option ℕ)
next_positions at [] = []
next_positions at (x ∷ xs) =
    next_positions (suc at) xs ++ slice_get (positions_from x (suc at) xs) 0 ∷ []

-- the next position after that of a partner
abbrev pub next_partner : List (Option ℕ) → Option ℕ → Option ℕ
next_partner next None = None
next_partner next (Some k) = slice_index_or next (length next - 1 - k) None

-- the variables from a position on are listed by their names
pub record HasNamesakesFrom {S : Type 0} (at : ℕ) (names : List (List ℕ))
    (first : IndexMap (Vec ℕ) ℕ S) (next : List (Option ℕ)) : Type 0 where
  pub first_is : (name : List ℕ) → index_in first name ≡ slice_get (positions_from name at names) 0
  pub next_is : next ≡ next_positions at names

-- the partner of a variable after the last one with its name, if there is one, and else the first
abbrev pub partner_after : (next partners : List (Option ℕ)) → (before first : Option ℕ) → Option ℕ
partner_after next partners None first = first
partner_after next partners (Some k) first = next_partner next (slice_index_or partners k None)

-- all of them
abbrev pub HasNamesakes : List (List ℕ) → Namesakes → Type 0
HasNamesakes names n = HasNamesakesFrom 0 names n.first n.next.items

-- the last variable with a name, of those before a position, if there is one
abbrev pub IsLast : (names : List (List ℕ)) → (position : ℕ) → (name : List ℕ) → Option ℕ → Type 0
IsLast names position name None = count_by (bytes_eq name) (take position names) ≡ 0
IsLast names position name (Some k) = (k < position) × (bytes_eq name (name_at names k) ≡ true)
    × (count_by (bytes_eq name) (take k names) + 1 ≡ count_by (bytes_eq name) (take position names))
