-- The scopes passed are opened.
use Rattle.std.proofs.Common.{drop, map}
use Rattle.std.specs.List.{flat_map}
use Rattle.vcd_text.specs.Items.{scope}
use Rattle.vcd_text.specs.Text.{item_line}
use Rattle.vcd_text.proofs.shared.EmittedParts.{WritesPrefix}
use Rattle.vcd_text.proofs.writing.declarations.write_scopes.Given as goal

abbrev pub invariant-loop-name : goal.invariant-loop-name
invariant-loop-name g l =
    WritesPrefix g.W.Sink l.initial.output l.output
    (flat_map item_line (map (λ s. scope s.kind s.words) (drop l.name-index l.scopes)))
    (flat_map item_line (map (λ s. scope s.kind s.words) l.scopes))
