-- What a set of hashes holds of names.
use Rattle.std.specs.Prelude.{◌≡◌, ℕ, List, map, nat_eq}
use Rattle.std.specs.List.{list_any}
use Rattle.std.specs.HashSet.{HashSet, contains}
use Rattle.vcd_amend_run.specs.inside.NameHash.{name_hash}

-- a set has the hashes of these names, and no others
abbrev pub AreHashesOf : {S : Type 0} → HashSet ℕ S → List (List ℕ) → Type 0
AreHashesOf hashes names =
    (x : ℕ) → contains nat_eq hashes x ≡ list_any (nat_eq x) (map name_hash names)
