-- What is left has the same head, and is no longer.
use Rattle.std.proofs.Common.{◌≡◌, ◌+◌, ◌≤◌, length}
use Rattle.vcd_core.specs.FullName.{name_bytes}
use Rattle.vcd_part.specs.inside.Heads.{head_of}
use Rattle.vcd_part.proofs.pattern.head.Given as goal

abbrev pub invariant-loop-wanted : goal.invariant-loop-wanted
invariant-loop-wanted l = record {
  same : head_of l.left (name_bytes l.name) ≡ head_of l.initial.left (name_bytes l.initial.name);
  shorter : length l.left + length (name_bytes l.name)
      ≤ length l.initial.left + length (name_bytes l.initial.name);
}

abbrev pub decreases-loop-wanted : goal.decreases-loop-wanted
decreases-loop-wanted l = length l.left
