use Rattle.std.proofs.Common.{◌≡◌, ℕ, ◌+◌, nat_le, List, [], get_or, if◌then◌else◌, refl, ◌∙◌, arith}
use Rattle.std.proofs.lemmas.List.{length-set, get_or-set_other}
use Rattle.vcd_remarks.specs.inside.FoundTicks.{with_tick}
use Rattle.vcd_remarks.specs.inside.RunsBelow.{count_to, found_below}
use Rattle.vcd_remarks.proofs.clock_runs.CountedBits.{one_counted, one_stored}
use Rattle.vcd_remarks.proofs.clock_runs.runs_below.note_first.Goals as goal

pub loop-power-init : goal.loop-power-init
unfolding count_to
loop-power-init c = record {
  length = refl;
  count = refl;
  noted = λ k none. absurd (omega (arith, none));
  left = λ k none. refl;
}

pub loop-power-preserved : goal.loop-power-preserved
loop-power-preserved c =
    let first = c.loop-power.first in
    let power = c.loop-power.power in
    let start = c.args.first.now in
    let of_bits = c.args.of_bits.now in
    let value = c.with_next_if.result in
    let before = c.loop-power.invariant in
    let count : c.saturating_add-count.result ≡ count_to of_bits (power + 1) = one_counted of_bits power _
    (omega (arith, c.saturating_add-count.ensures, before.count)) in
    let next : ℕ → List ℕ = λ k. if nat_le c.args.bits k
    then (with_tick (found_below of_bits start k) c.args.tick).first else get_or start k [] in
    let here : get_or first power [] ≡ get_or start power [] = before.left power (omega arith) in
    let stored : value ≡ next power = c.with_next_if.ensures ∙ (λ i. if nat_le c.args.bits power
    then (with_tick (record { count = count i; first = here i }) c.args.tick).first else here i) in
    record {
      length = length-set first power value ∙ before.length;
      count = count;
      noted = λ k less. one_stored first power value next (omega (arith, before.length, c.loop-power-test.true)) stored
          before.noted k less;
      left = λ k from. get_or-set_other first power k value [] (λ same. omega (arith, from, same))
          ∙ before.left k (omega (arith, from));
    }
