-- Another number of words than a command or a rule takes is refused.
use Rattle.std.proofs.Common.{◌≡◌, List, ℕ, [], ◌∷◌, Err, length, refl}
use Rattle.vcd_core.specs.Contents.{Contents}
use Rattle.vcd_script.specs.declared.script.keyword.Keyword.{Keyword}
use Rattle.vcd_script.specs.declared.script.keyword.Keyword.TheVariants as keywords
use Rattle.vcd_script.specs.declared.script.line_error.LineError.TheVariants.{WrongCount}
use Rattle.vcd_script.specs.ScriptCommands.{not_rule, pair_of, bit_rule, command_of}

-- a command does not take this number of words; `derive` takes any number but 0 and 1
abbrev pub TakesOther : Keyword → ℕ → Type 0
TakesOther keywords.Undo count = count ≡ 0 → ⊥
TakesOther keywords.Redo count = count ≡ 0 → ⊥
TakesOther keywords.List count = count ≡ 0 → ⊥
TakesOther keywords.Remove count = count ≡ 1 → ⊥
TakesOther keywords.Invert count = count ≡ 1 → ⊥
TakesOther keywords.Depth count = count ≡ 1 → ⊥
TakesOther keywords.Changes count = count ≡ 1 → ⊥
TakesOther keywords.Force count = count ≡ 4 → ⊥
TakesOther keywords.Uart count = count ≡ 5 → ⊥
TakesOther keywords.Spi count = count ≡ 7 → ⊥
TakesOther keywords.Derive count = ⊥
TakesOther keyword count = count ≡ 2 → ⊥

pub wrong_count : (c : Contents) (keyword : Keyword) (words : List (List ℕ)) → TakesOther keyword (length words)
    → command_of c keyword words ≡ Err WrongCount
wrong_count c keywords.Undo [] other = absurd (other refl)
wrong_count c keywords.Redo [] other = absurd (other refl)
wrong_count c keywords.List [] other = absurd (other refl)
wrong_count c keywords.Remove (a ∷ []) other = absurd (other refl)
wrong_count c keywords.Invert (a ∷ []) other = absurd (other refl)
wrong_count c keywords.Depth (a ∷ []) other = absurd (other refl)
wrong_count c keywords.Changes (a ∷ []) other = absurd (other refl)
wrong_count c keywords.Rename (a ∷ b ∷ []) other = absurd (other refl)
wrong_count c keywords.Shift (a ∷ b ∷ []) other = absurd (other refl)
wrong_count c keywords.Cut (a ∷ b ∷ []) other = absurd (other refl)
wrong_count c keywords.Deglitch (a ∷ b ∷ []) other = absurd (other refl)
wrong_count c keywords.Value (a ∷ b ∷ []) other = absurd (other refl)
wrong_count c keywords.I2c (a ∷ b ∷ []) other = absurd (other refl)
wrong_count c keywords.Force (a ∷ b ∷ d ∷ e ∷ []) other = absurd (other refl)
wrong_count c keywords.Uart (a ∷ b ∷ d ∷ e ∷ f ∷ []) other = absurd (other refl)
wrong_count c keywords.Spi (a ∷ b ∷ d ∷ e ∷ f ∷ g ∷ h ∷ []) other = absurd (other refl)
wrong_count c keywords.Derive words other = absurd other
wrong_count c keyword words other = refl

pub wrong_not : (c : Contents) (operands : List (List ℕ)) → (length operands ≡ 1 → ⊥)
    → not_rule c operands ≡ Err WrongCount
wrong_not c (a ∷ []) other = absurd (other refl)
wrong_not c operands other = refl

pub wrong_pair : (c : Contents) (operands : List (List ℕ)) → (length operands ≡ 2 → ⊥)
    → pair_of c operands ≡ Err WrongCount
wrong_pair c (a ∷ b ∷ []) other = absurd (other refl)
wrong_pair c operands other = refl

pub wrong_bit : (c : Contents) (operands : List (List ℕ)) → (length operands ≡ 2 → ⊥)
    → bit_rule c operands ≡ Err WrongCount
wrong_bit c (a ∷ b ∷ []) other = absurd (other refl)
wrong_bit c operands other = refl
