use Rattle.std.proofs.Common.{◌≡◌, ℕ, ◌<◌, Some, false}
use Rattle.std.specs.Prelude.{IsFalse, slice_get, slice_index_or}
use Rattle.vcd_text.specs.declared.reading.variables.Variable.{Variable}
use Rattle.vcd_text.proofs.reading.variables.choosing.hear_remaining.Given as goal

abbrev pub invariant-loop-position : goal.invariant-loop-position
invariant-loop-position l = (position : ℕ) (v : Variable) → position < l.position →
    slice_get l.fn.kept position ≡ Some v
    → IsFalse (slice_index_or l.fn.left_out position false)
    → IsFalse (slice_index_or l.silent v.first false)
