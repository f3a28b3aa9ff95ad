-- A block of a value of at most 64 bits has its letters.
use Rattle.std.proofs.Common.{◌≡◌, ◌+◌, ◌*◌, ◌<◌, ◌≤◌, List, [], ◌∷◌, length, ap, ◌∙◌, arith, if◌then◌else◌}
use Rattle.std.proofs.lemmas.Bool.{lt-ltb}
use Rattle.vcd_core.specs.declared.bit.Bit.{Bit}
use Rattle.vcd_core.specs.declared.bit.Bit.TheVariants.{Zero}
use Rattle.vcd_core.specs.declared.letter_block.LetterBlock.{LetterBlock}
use Rattle.vcd_core.specs.Value.{letter_at}
use Rattle.vcd_core.specs.BlockRows.{letter_or, letters_of, HoldsLetters}
use Rattle.vcd_core.proofs.shared.LettersOfPlanes.{same_letter_at, length-letters_of, letter_at-letters_of, one_block}

pub block_of_value : (v : List Bit) (block : LetterBlock) → length v ≤ 64 → HoldsLetters Zero v (64 * 0) block
    → letters_of (length v) (block ∷ []) ≡ v
block_of_value v block most holds =
    same_letter_at _ _ (length-letters_of (length v) (block ∷ [])) (λ k below.
    let within : k < length v = omega (arith, length-letters_of (length v) (block ∷ []), below) in
    letter_at-letters_of (length v) (block ∷ []) k within ∙ one_block block k (omega arith)
    ∙ holds.each k (omega arith) ∙ ap (letter_or Zero v) {x = 64 * 0 + k} {y = k} (omega arith)
    ∙ ap (λ b. if b then letter_at v k else Zero) (lt-ltb k (length v) within))
