-- The edges at which SCL rises and SDA changes.
use Rattle.std.proofs.Common.{◌≡◌, ◌&&◌, ◌||◌, Bool, false, Option, Some, None, refl, ap, ◌∙◌}
use Rattle.vcd_core.specs.declared.bit.Bit.{Bit}
use Rattle.vcd_core.specs.declared.bit.Bit.TheVariants.{Zero, One, X, Z}
use Rattle.vcd_core.specs.declared.bit_edges.BitEdge.{BitEdge}
use Rattle.vcd_decode.specs.inside.PartialWord.{line_bit}
use Rattle.vcd_remarks.specs.inside.JointRises.{rise, fall, is_joint_rise}

-- a letter that stays does not rise
never_rises : (b : Option Bit) → rise b b ≡ false
never_rises None = refl
never_rises (Some Zero) = refl
never_rises (Some One) = refl
never_rises (Some X) = refl
never_rises (Some Z) = refl

-- nor does the first line where no line changes
pub no_joint_rise : (e : BitEdge) → e.at ≡ e.before → is_joint_rise e ≡ false
no_joint_rise e same =
    let second : Bool = rise (line_bit e.before 1) (line_bit e.at 1) || fall (line_bit e.before 1) (line_bit e.at 1) in
    ap (λ bits. rise (line_bit e.before 0) (line_bit bits 0) && second) same
    ∙ ap (λ b. b && second) (never_rises (line_bit e.before 0))
