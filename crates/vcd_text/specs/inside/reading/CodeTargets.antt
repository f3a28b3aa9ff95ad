-- The targets of codes: those of few bytes by their index in a table, the others by a map.
use Rattle.std.specs.Prelude.{ℕ, ◌+◌, ◌*◌, ◌==◌, nat_le, ◌||◌, if◌then◌else◌, List, [], ◌∷◌}
use Rattle.std.specs.Prelude.{slice_index_or, unwrap_or}
use Rattle.std.specs.Prelude.{Option, Some, None, bytes_eq}
use Rattle.std.specs.Global.{Vec}
use Rattle.indexmap.specs.IndexMap.{IndexMap, get_by}
use Rattle.vcd_text.specs.declared.reading.code_targets.CodeTargets.{CodeTargets}

-- a byte from 1 to 127 as a digit
abbrev pub digit_of : ℕ → Option ℕ
digit_of b = if b == 0 || nat_le 128 b then None else Some b

-- a digit and those after it, if all are there
abbrev pub joined_digits : Option ℕ → Option ℕ → Option ℕ
joined_digits (Some a) (Some rest) = Some (a + 128 * rest)
joined_digits first others = None

-- the index of a code of one to three such bytes: they are its digits to the base 128, the lowest
-- first
abbrev pub index_of_code : List ℕ → Option ℕ
index_of_code (a ∷ []) = digit_of a
index_of_code (a ∷ b ∷ []) = joined_digits (digit_of a) (digit_of b)
index_of_code (a ∷ b ∷ c ∷ []) = joined_digits (digit_of a) (joined_digits (digit_of b)
    (digit_of c))
index_of_code code = None

-- the target of a code in a map
abbrev pub in_map : {T S : Type 0} → (absent : T) → IndexMap (Vec ℕ) T S → List ℕ → T
in_map absent codes code = unwrap_or (get_by (λ key. bytes_eq code key.items) codes) absent

-- the target of a code at this index
abbrev pub target_at_index : {T : Type 0} → CodeTargets T → List ℕ → Option ℕ → T
target_at_index t code None = in_map t.absent t.others code
target_at_index t code (Some index) = slice_index_or t.short.items index t.absent

-- the target of a code
abbrev pub code_target : {T : Type 0} → CodeTargets T → List ℕ → T
code_target t code = target_at_index t code (index_of_code code)
