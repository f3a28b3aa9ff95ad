use Rattle.std.proofs.Common.{◌≡◌, ◌*◌, length}
use Rattle.vcd_core.specs.declared.value.TheConstants.{BLOCKS}
use Rattle.vcd_edit.specs.inside.plans.Invert.{ShowsInverse}
use Rattle.vcd_edit.proofs.plans.invert.write_inverse.Given as goal

-- the words below j are written
abbrev pub invariant-loop-j : goal.invariant-loop-j
invariant-loop-j l = record { shows : ShowsInverse (64 * l.j) l.value l.blocks; sized : length l.blocks ≡ BLOCKS }
