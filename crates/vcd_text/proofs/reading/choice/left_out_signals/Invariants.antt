use Rattle.std.proofs.Common.{◌≡◌, ◌<◌, ℕ, Some, false, not, length}
use Rattle.std.specs.Prelude.{slice_get, slice_index_or}
use Rattle.vcd_core.specs.Contents.{SignalContents}
use Rattle.vcd_text.specs.inside.reading.DeclaredSignals.{declared_contents}
use Rattle.vcd_text.proofs.reading.choice.left_out_signals.Given as goal

abbrev pub invariant-loop-position : goal.invariant-loop-position
invariant-loop-position g l =
    (length l.left_out.items ≡ l.position)
    × ((k : ℕ) (s : SignalContents) → k < l.position → slice_get (declared_contents l.fn.signals) k ≡ Some s
    → slice_index_or l.left_out.items k false ≡ not (g.C.Choice.takes l.fn.choice s))
