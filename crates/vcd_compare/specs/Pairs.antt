-- Which variables of two captures are compared: those with one full name. The project's own.
use Rattle.std.specs.Prelude.{◌≡◌, ℕ, ◌<◌, ◌↔◌, ◌==◌, ◌&&◌, Bool, bytes_eq, Option, Some, List, []}
use Rattle.std.specs.Prelude.{length, take, map, count_by, slice_index_or, find}
use Rattle.std.specs.List.{range_with_len}

-- the name at a position
abbrev pub name_at : List (List ℕ) → ℕ → List ℕ
name_at names k = slice_index_or names k []

-- how many variables before a position have the name of the one there
abbrev pub namesakes_before : (names : List (List ℕ)) → ℕ → ℕ
namesakes_before names k = count_by (bytes_eq (name_at names k)) (take k names)

-- whether two variables, by their positions, are a pair: they have one name, and of several with it
-- both are the first, or both the second, and so on
abbrev pub are_pair : (names others : List (List ℕ)) → (k j : ℕ) → Bool
are_pair names others k j = bytes_eq (name_at names k) (name_at others j)
    && (namesakes_before names k == namesakes_before others j)

-- the partner of a variable: the other one with which it is a pair
abbrev pub partner_of : (names others : List (List ℕ)) → (k : ℕ) → Option ℕ
partner_of names others k = find (are_pair names others k) (range_with_len 0 (length others))

-- the partner of each variable
abbrev pub partners_of : (names others : List (List ℕ)) → List (Option ℕ)
partners_of names others = map (partner_of names others) (range_with_len 0 (length names))

-- a law: a variable is the partner of its partner, so each has one partner at most
abbrev pub PartnersAreMutual : Type 0
PartnersAreMutual = (names others : List (List ℕ)) (k j : ℕ) → k < length names → j < length others
    → (partner_of names others k ≡ Some j) ↔ (partner_of others names j ≡ Some k)
