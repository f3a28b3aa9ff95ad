use Rattle.std.proofs.Common.{◌&&◌, take, drop, sym, ap, ◌∙◌}
use Rattle.std.specs.List.{list_all}
use Rattle.std.proofs.lemmas.List.{take-append-drop}
use Rattle.std.proofs.lemmas.List.Folds.{list_all-append}
use Rattle.vcd_text.specs.Letters.{is_binary_digit}
use Rattle.vcd_text.proofs.reading.digit_blocks.LetterBlocks.{two_states_are_digits}
use Rattle.vcd_text.proofs.reading.digits.after_two_state.Goals as goal

pub loop-digits-preserved : goal.loop-digits-preserved
loop-digits-preserved g c =
    let rest = c.loop-digits.rest.now in
    let following = c.in-Some.following.now in
    let first = two_states_are_digits c.in-Some.digits.now (sym c.are_two_state.ensures
    ∙ c.if-not-are_two_state.false) in
    ap (λ b. b && list_all is_binary_digit following)
    (sym first ∙ ap (list_all is_binary_digit) c.in-Some.ensures.cases.0)
    ∙ ap (λ l. list_all is_binary_digit (take g.row.N rest) && list_all is_binary_digit l) c.in-Some.ensures.cases.1
    ∙ sym (list_all-append is_binary_digit (take g.row.N rest) (drop g.row.N rest))
    ∙ ap (list_all is_binary_digit) (take-append-drop g.row.N rest)
    ∙ c.loop-digits.invariant
