use Rattle.std.proofs.Common.{◌≡◌, ◌++◌, ◌<◌, All, map, drop, take, length}
use Rattle.vcd_core.specs.Wave.{IsWave}
use Rattle.vcd_amend.specs.AmendmentContents.{code_contents}
use Rattle.vcd_amend.specs.inside.amending.DueChanges.{due_transition, unsorted_transitions}
use Rattle.vcd_amend.proofs.amending.due_changes.due_changes.Given as goal

abbrev pub invariant-loop-index : goal.invariant-loop-index
invariant-loop-index l = record {
  listed : map due_transition l.due.items ++ unsorted_transitions l.index (map code_contents (drop l.index l.codes))
      ≡ unsorted_transitions 0 (map code_contents l.codes);
  within : All (λ d. d.index < length l.codes) l.due.items;
  sound : All (λ c. IsWave c.new.width c.new.changes) (take l.index l.codes);
}
