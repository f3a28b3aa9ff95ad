-- A pattern up to its first `*`, and the bytes of the name that it takes.
use Rattle.std.specs.Prelude.{ℕ, Bool, false, ◌==◌, ◌||◌, ◌+◌, ◌<◌, if◌then◌else◌, List, [], ◌∷◌}
use Rattle.std.specs.Prelude.{length}
use Rattle.vcd_core.specs.FullName.{name_bytes}
use Rattle.vcd_part.specs.declared.pattern.PatternHead.{PatternHead}
use Rattle.vcd_part.specs.declared.pattern.PatternHead.TheVariants.{Ended, Star}

-- the pattern has no `*`, or a byte of the name is not the one before it: whether the name meets
-- it; or what is left of both after the `*`
pub data HeadBytes : Type 0 where
  ended : Bool → HeadBytes
  star : (pattern name : List ℕ) → HeadBytes

-- the same after one byte of the name
abbrev pub head_after_byte : ℕ → (List ℕ → HeadBytes) → List ℕ → HeadBytes
head_after_byte wanted next [] = ended false
head_after_byte wanted next (b ∷ bytes) =
    if wanted == 63 || wanted == b then next bytes else ended false

-- the head of a pattern, on a name
unfoldable pub head_of : (pattern name : List ℕ) → HeadBytes
head_of [] name = ended (length name == 0)
head_of (c ∷ pattern) name = if c == 42 then star pattern name
    else head_after_byte c (head_of pattern) name

-- the bytes of a head that the code has
abbrev pub head_bytes : PatternHead → HeadBytes
head_bytes (Ended is_met) = ended is_met
head_bytes (Star pattern name) = star pattern.now (name_bytes name)

-- less is left of both together
abbrev pub IsShorter : HeadBytes → (before : ℕ) → Type 0
IsShorter (ended is_met) before = Unit {0}
IsShorter (star pattern name) before = length pattern + length name < before
