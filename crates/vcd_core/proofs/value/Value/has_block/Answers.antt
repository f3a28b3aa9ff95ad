use Rattle.std.proofs.lemmas.Bool.Decides.{same_from_decides, Decides-like, Decides-and, Decides-eqb}
use Rattle.vcd_core.specs.inside.value.EqualByLetters.{same_letters-Decides}
use Rattle.vcd_core.proofs.shared.LettersOfPlanes.{first_words-Decides}
use Rattle.vcd_core.proofs.value.Value.has_block.Goals as goal

pub returns : goal.returns
returns c =
    let words = first_words-Decides _ _ c.self.invariant c.self.view_is c.args.block _ c.requires
    c.ones-mask.ensures in
    same_from_decides _ _ (Decides-like _ words.0 words.1 (Decides-and _ _ (Decides-eqb _ _) (Decides-eqb _ _)))
    (same_letters-Decides _ _)
