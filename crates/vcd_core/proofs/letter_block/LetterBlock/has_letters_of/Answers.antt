use Rattle.std.proofs.Common.{◌≤◌, [], ◌∷◌, List, length, sym, ap, subst, ◌∙◌}
use Rattle.vcd_core.specs.declared.bit.Bit.{Bit}
use Rattle.vcd_core.specs.Value.{same_letters}
use Rattle.vcd_core.specs.BlockRows.{letters_of}
use Rattle.vcd_core.proofs.shared.LettersOfPlanes.{length-letters_of}
use Rattle.vcd_core.proofs.letter_block.LetterBlock.has_letters_of.Goals as goal

pub has_block-requires : goal.has_block-requires
has_block-requires c =
    subst (λ n. n ≤ 64) (sym (ap (λ (v : List Bit). length v) c.from_block.ensures
    ∙ length-letters_of c.args.width (c.args.other ∷ []))) c.requires.most

pub returns : goal.returns
returns c =
    c.has_block.ensures
    ∙ ap (λ (v : List Bit). same_letters (letters_of (length v) (c.args.self ∷ [])) v) c.from_block.ensures
    ∙ ap (λ n. same_letters (letters_of n (c.args.self ∷ [])) (letters_of c.args.width (c.args.other ∷ [])))
    (length-letters_of c.args.width (c.args.other ∷ []))
