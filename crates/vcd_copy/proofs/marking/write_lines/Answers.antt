-- Each turn writes one line.
use Rattle.std.proofs.Common.{ℕ, List, ap, ◌∷◌, refl}
use Rattle.std.specs.List.{flat_map, join_with_byte}
use Rattle.vcd_copy.specs.MarkText.{line_words}
use Rattle.vcd_text.proofs.shared.EmittedParts.{prefix_item, writes_as}
use Rattle.vcd_copy.proofs.marking.write_lines.Goals as goal

pub loop-line-preserved : goal.loop-line-preserved
loop-line-preserved g c = λ word is.
    prefix_item (λ (ls : List (List ℕ)). flat_map (λ line. 10 ∷ join_with_byte 32 (line_words word line)) ls)
    c.args.lines.now c.loop-line.line-index c.line-item.result (c.loop-line.invariant word is)
    (writes_as (ap (λ (l : List ℕ). 10 ∷ join_with_byte 32 (line_words word l)) c.as_slice.ensures)
    (c.write_line.ensures word is))
    c.loop-line-test.true c.line-item.is refl
