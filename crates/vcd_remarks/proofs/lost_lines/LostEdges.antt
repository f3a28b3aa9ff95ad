-- The edges from which on a line is lost.
use Rattle.std.proofs.Common.{◌≡◌, ℕ, false, Option, Some, None, refl, ap, ◌∙◌}
use Rattle.vcd_core.specs.declared.bit.Bit.{Bit}
use Rattle.vcd_core.specs.declared.bit.Bit.TheVariants.{Zero, One, X, Z}
use Rattle.vcd_core.specs.declared.bit_edges.BitEdge.{BitEdge}
use Rattle.vcd_decode.specs.inside.PartialWord.{line_bit}
use Rattle.vcd_remarks.specs.declared.lost_lines.Pull.{Pull}
use Rattle.vcd_remarks.specs.declared.lost_lines.Pull.TheVariants.{Floating, Up}
use Rattle.vcd_remarks.specs.inside.LostLines.{become_lost, loses_line_at}

-- a letter that stays is not lost from there on
never_lost : (pull : Pull) (b : Option Bit) → become_lost pull b b ≡ false
never_lost pull None = refl
never_lost pull (Some Zero) = refl
never_lost pull (Some One) = refl
never_lost pull (Some X) = refl
never_lost Floating (Some Z) = refl
never_lost Up (Some Z) = refl

-- nor is a line where no line changes
pub not_lost_at : (pull : Pull) (line : ℕ) (e : BitEdge) → e.at ≡ e.before → loses_line_at pull line e ≡ false
not_lost_at pull line e same =
    ap (λ bits. become_lost pull (line_bit e.before line) (line_bit bits line)) same
    ∙ never_lost pull (line_bit e.before line)
