use Rattle.std.proofs.Common.{◌∙◌, ◌≡◌, ◌∷◌, [], ap, length, arith}
use Rattle.std.proofs.lemmas.List.{length-replicate}
use Rattle.vcd_core.specs.Value.{all_x, same_letters}
use Rattle.vcd_core.specs.BlockRows.{letters_of}
use Rattle.vcd_core.proofs.shared.Pushes.{last_value-split, last_value-none, last_value-long}
use Rattle.vcd_core.proofs.wave.push.has_last_block.Goals as goal

pub has_block-requires : goal.has_block-requires
has_block-requires c =
    let long : length c.in-Some.last.now.value ≡ c.args.width =
    ap length (last_value-split (all_x c.args.width) _ _ _ (c.in-Some.ensures.cases.0))
    ∙ last_value-long 0 _ _ c.requires.form.rise ∙ length-replicate c.args.width _ in
    omega (arith, c.requires.most)

pub returns-in-Some : goal.returns-in-Some
returns-in-Some c =
    let last = last_value-split (all_x c.args.width) _ _ _ (c.in-Some.ensures.cases.0) in
    let long : length c.in-Some.last.now.value ≡ c.args.width = ap length last
    ∙ last_value-long 0 _ _ c.requires.form.rise ∙ length-replicate c.args.width _ in
    c.has_block.ensures ∙ (λ i. same_letters (letters_of (long i) (c.args.block ∷ [])) (last i))

pub returns-in-None : goal.returns-in-None
returns-in-None c =
    let long : length c.filled.result ≡ c.args.width = ap length c.filled.ensures ∙ length-replicate c.args.width _ in
    let last = c.filled.ensures ∙ last_value-none (all_x c.args.width) _ c.in-None.ensures.cases in
    c.has_block-in-None.ensures ∙ (λ i. same_letters (letters_of (long i) (c.args.block ∷ [])) (last i))
