use Rattle.std.proofs.Common.{◌≡◌, ◌-◌, ◌*◌, length}
use Rattle.vcd_core.specs.declared.value.TheConstants.{BLOCKS}
use Rattle.vcd_core.proofs.planes.WrittenBits.{HoldsBlocks}
use Rattle.vcd_core.proofs.planes.planes_of_blocks.Given as goal

abbrev pub invariant-loop-j : goal.invariant-loop-j
invariant-loop-j l = record {
  sized : length l.planes ≡ 2 * BLOCKS;
  left : l.left ≡ l.width - 64 * l.j;
  holds : HoldsBlocks BLOCKS l.width l.j l.planes l.blocks;
}
