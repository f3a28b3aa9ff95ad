-- The hash of a name: one number for all its bytes.
use Rattle.std.specs.Prelude.{ℕ, ◌+◌, ◌*◌, ◌%◌, ◌^◌, List, [], ◌∷◌}
use Rattle.vcd_amend_run.specs.declared.name_hash.TheConstants.{HASH_FACTOR}

-- the hash after these bytes, from that before them
unfoldable pub hash_after : ℕ → List ℕ → ℕ
hash_after hash [] = hash
hash_after hash (byte ∷ bytes) =
    hash_after ((hash * HASH_FACTOR % 2 ^ 64 + byte) % 2 ^ 64) bytes

-- the hash of a name
abbrev pub name_hash : List ℕ → ℕ
name_hash name = hash_after 0 name
