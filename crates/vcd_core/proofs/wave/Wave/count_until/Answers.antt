use Rattle.std.proofs.Common.{◌∙◌, sym, ap, arith, rules, subst}
use Rattle.std.specs.List.{count_by}
use Rattle.std.proofs.Math.Dec.{ltb}
use Rattle.std.proofs.lemmas.List.Sorted.{IsPartitionPoint-from_clause, IsPartitionedBy-ltb}
use Rattle.vcd_core.specs.declared.wave.Change.{Change}
use Rattle.vcd_core.specs.Wave.{IsWave}
use Rattle.vcd_core.specs.WaveView.{WaveView}
use Rattle.vcd_core.proofs.shared.Pushes.{ticks_do_not_fall, count_is, no_change}
use Rattle.vcd_core.proofs.wave.Wave.count_until.Goals as goal

pub returns : goal.returns
returns c =
    let list = c.as_slice.result.now in
    let is : IsWave c.self.inside.width list =
    subst (IsWave c.self.inside.width) (sym c.as_slice.ensures) c.self.invariant.2 in
    let point = IsPartitionPoint-from_clause (λ (x : Change). ltb x.tick c.args.tick) list c.partition_point.result
    c.partition_point.ensures.partitioned
    (IsPartitionedBy-ltb (λ (x : Change). x.tick) list c.args.tick (ticks_do_not_fall 0 _ list is.rise))
    (λ a r f h. search rules) in
    sym (count_is (λ (x : Change). ltb x.tick c.args.tick) list c.partition_point.result no_change
    c.partition_point.ensures.bound
    (λ k early. point.0 k no_change (omega arith) early) (λ k from within. point.1 k no_change from within))
    ∙ ap (count_by (λ (x : Change). ltb x.tick c.args.tick)) (c.as_slice.ensures
    ∙ ap (λ (w : WaveView). w.changes) c.self.view_is)
