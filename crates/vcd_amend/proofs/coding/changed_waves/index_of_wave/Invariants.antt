use Rattle.vcd_amend.specs.inside.coding.ChangedWaves.{all_contents}
use Rattle.vcd_amend.proofs.coding.ChangedWaves.{IsLeft, count_left}
use Rattle.vcd_amend.proofs.coding.changed_waves.index_of_wave.Given as goal

abbrev pub decreases-loop-next : goal.decreases-loop-next
decreases-loop-next l = count_left l.next

abbrev pub invariant-loop-next : goal.invariant-loop-next
invariant-loop-next l = IsLeft (all_contents l.changed.waves.items) l.code l.new.changes l.next
