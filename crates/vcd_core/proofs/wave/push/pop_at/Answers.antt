use Rattle.std.proofs.Common.{◌∙◌, sym, arith, ◌-◌}
use Rattle.vcd_core.proofs.shared.Pushes.{taken_off, other_tick, all_before, no_change}
use Rattle.vcd_core.proofs.wave.push.pop_at.Goals as goal
use Rattle.vcd_core.proofs.wave.push.pop_at.Goals.{else-count-gt0-via-then-count-gt0+else-index-tick}
use Rattle.vcd_core.proofs.wave.push.pop_at.Goals.{else-count-gt0-via-else-count-gt0}

pub returns-then-index-tick-clause-changes : goal.returns-then-index-tick-clause-changes
returns-then-index-tick-clause-changes c =
    let form = c.requires.form in
    c.truncate.ensures.items
    ∙ sym (taken_off form.0 _ _ _ c.index.result.now form.1 (omega arith) c.index.ensures c.if-index-tick.true)

pub returns-else-count-gt0-clause-changes : goal.returns-else-count-gt0-clause-changes
returns-else-count-gt0-clause-changes c =
    let form = c.requires.form in
    elim c.else-count-gt0.branch [
      | else-count-gt0-via-then-count-gt0+else-index-tick w ↦
          other_tick form.0 _ _ (c.len-count.result - 1) w.index.result.now form.1 (omega arith) w.index.ensures
          c.requires.none_later w.if-index-tick.false
      | else-count-gt0-via-else-count-gt0 w ↦ all_before _ _ no_change (λ k within. absurd (omega arith))
    ]
