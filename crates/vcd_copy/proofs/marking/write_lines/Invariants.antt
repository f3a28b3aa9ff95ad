-- The lines passed are written.
use Rattle.std.proofs.Common.{◌≡◌, ℕ, List, drop, ◌∷◌}
use Rattle.std.specs.List.{flat_map, join_with_byte}
use Rattle.vcd_copy.specs.MarkText.{line_words}
use Rattle.vcd_text.proofs.shared.EmittedParts.{WritesPrefix}
use Rattle.vcd_copy.proofs.marking.write_lines.Given as goal

abbrev pub invariant-loop-line : goal.invariant-loop-line
invariant-loop-line g l =
    (word : List ℕ) → l.first ≡ 10 ∷ word → WritesPrefix g.W.Sink l.initial.output l.output
    (flat_map (λ line. 10 ∷ join_with_byte 32 (line_words word line)) (drop l.line-index l.lines))
    (flat_map (λ line. 10 ∷ join_with_byte 32 (line_words word line)) l.lines)
