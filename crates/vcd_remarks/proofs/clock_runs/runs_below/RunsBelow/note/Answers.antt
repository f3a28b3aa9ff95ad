use Rattle.std.proofs.Common.{◌≡◌, ◌<◌, nat_le, Bool, [], length, get_or, slice_set, if◌then◌else◌, ap, ◌∙◌, arith}
use Rattle.vcd_remarks.specs.declared.clock_runs.runs_below.RunsBelow.{RunsBelow}
use Rattle.vcd_remarks.specs.inside.FoundTicks.{with_tick}
use Rattle.vcd_remarks.specs.inside.RunsBelow.{at_power, found_below}
use Rattle.vcd_remarks.proofs.clock_runs.CountedBits.{noted, enough, one_noted}
use Rattle.vcd_remarks.proofs.clock_runs.runs_below.RunsBelow.note.Goals as goal
use Rattle.vcd_remarks.proofs.clock_runs.runs_below.RunsBelow.note.Goals.{then-count, else-count}

pub returns : goal.returns
returns c = λ power less.
    let old = c.args.self.now in
    let tick = c.args.tick in
    let bits = c.bits_of-bits.result in
    let next = c.if-count.self in
    let within : bits < length old.of_bits = omega (arith, c.bits_of-bits.ensures.few) in
    let same : next.of_bits ≡ old.of_bits = elim c.if-count.branch [
      | then-count w ↦ ap (λ (r : RunsBelow). r.of_bits) w.self-is
      | else-count w ↦ ap (λ (r : RunsBelow). r.of_bits) w.self-is
    ] in
    let shown : get_or next.first power [] ≡ noted old.of_bits old.first bits tick power (nat_le bits power) =
    elim c.if-count.branch [
      | then-count w ↦
          ap (λ (r : RunsBelow). get_or r.first power []) w.self-is
          ∙ w.note_first.ensures.each power (omega (arith, less))
      | else-count w ↦
          ap (λ (r : RunsBelow). get_or r.first power []) w.self-is
          ∙ enough old.of_bits old.first bits tick power (omega (arith, w.if-count.false))
    ] in
    (λ i. found_below (slice_set (same i) bits (c.saturating_add.ensures i)) next.first power)
    ∙ one_noted old.of_bits old.first bits tick power within next.first shown
    ∙ ap (λ (b : Bool). if b then with_tick (at_power old power) tick else at_power old power)
    (c.bits_of-bits.ensures.least power)
