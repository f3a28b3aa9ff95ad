-- The lines passed are written.
use Rattle.std.proofs.Common.{◌-◌, replicate}
use Rattle.std.specs.List.{flat_map}
use Rattle.vcd_text.specs.Items.{upscope}
use Rattle.vcd_text.specs.Text.{item_line}
use Rattle.vcd_text.proofs.shared.EmittedParts.{WritesPrefix}
use Rattle.vcd_text.proofs.writing.declarations.write_upscopes.Given as goal

abbrev pub invariant-loop-closed : goal.invariant-loop-closed
invariant-loop-closed g l =
    WritesPrefix g.W.Sink l.initial.output l.output
    (flat_map item_line (replicate (l.count - l._closed) upscope)) (flat_map item_line (replicate l.count upscope))
