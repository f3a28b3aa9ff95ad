use Rattle.std.proofs.Common.{◌∙◌, sym, ap, arith, rules, subst, take}
use Rattle.std.proofs.Math.Dec.{leb}
use Rattle.std.proofs.lemmas.List.Sorted.{IsPartitionPoint-from_clause, IsPartitionedBy-leb}
use Rattle.vcd_core.specs.declared.wave.Change.{Change}
use Rattle.vcd_core.specs.Wave.{value_at, IsWave}
use Rattle.vcd_core.specs.WaveView.{WaveView}
use Rattle.vcd_core.specs.Value.{all_x}
use Rattle.vcd_core.specs.WavePush.{last_value}
use Rattle.vcd_core.proofs.shared.Pushes.{ticks_do_not_fall, count_is, value_counted, no_change}
use Rattle.vcd_core.proofs.wave.Wave.at.Goals as goal

pub returns : goal.returns
returns c =
    let list = c.as_slice-changes.result.now in
    let is : IsWave c.self.inside.width list =
    subst (IsWave c.self.inside.width) (sym c.as_slice-changes.ensures) c.self.invariant.2 in
    let point = IsPartitionPoint-from_clause (λ (x : Change). leb x.tick c.args.tick) list
    c.partition_point-count.result c.partition_point-count.ensures.partitioned
    (IsPartitionedBy-leb (λ (x : Change). x.tick) list c.args.tick (ticks_do_not_fall 0 _ list is.rise))
    (λ a r f h. search rules) in
    let count = count_is (λ (x : Change). leb x.tick c.args.tick) list c.partition_point-count.result no_change
    c.partition_point-count.ensures.bound
    (λ k early. point.0 k no_change (omega arith) early) (λ k late within. point.1 k no_change late within) in
    c.last_value.ensures
    ∙ sym (value_counted list c.args.tick 0 _ _ is.rise
    ∙ ap (λ n. last_value (all_x c.self.inside.width) (take n list)) count)
    ∙ ap (λ cs. value_at c.self.inside.width cs c.args.tick) c.as_slice-changes.ensures
    ∙ ap (λ (w : WaveView). value_at w.width w.changes c.args.tick) c.self.view_is
