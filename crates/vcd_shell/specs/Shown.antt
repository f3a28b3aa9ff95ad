-- Text as a terminal can show it: the project's own.
use Rattle.std.specs.Prelude.{ℕ, nat_le, ◌&&◌, if◌then◌else◌, List, map}

-- a byte as it is shown: `?` (63), unless it is a visible ASCII character or a space (32 to 126)
abbrev pub shown_byte : ℕ → ℕ
shown_byte b = if nat_le 32 b && nat_le b 126 then b else 63

-- a text as it is shown
abbrev pub shown : List ℕ → List ℕ
shown text = map shown_byte text
