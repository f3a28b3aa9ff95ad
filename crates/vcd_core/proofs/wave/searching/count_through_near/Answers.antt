use Rattle.std.proofs.Common.{slice_range, arith, rules}
use Rattle.std.proofs.Math.Dec.{leb}
use Rattle.std.proofs.lemmas.List.Sorted.{IsPartitionPoint-from_clause, IsPartitionedBy-leb}
use Rattle.vcd_core.specs.declared.wave.Change.{Change}
use Rattle.vcd_core.proofs.shared.Pushes.{no_change}
use Rattle.vcd_core.proofs.wave.searching.ChangesUpToTick.{part_rises, point_counts}
use Rattle.vcd_core.proofs.wave.searching.count_through_near.Goals as goal

pub returns : goal.returns
returns c =
    let (width, form) = c.requires in
    let cs = c.args.changes.now in
    let from = c.search_start-from.result in
    let to = c.search_end-to.result in
    let n = c.partition_point.result in
    let point = IsPartitionPoint-from_clause (λ (x : Change). leb x.tick c.args.tick) (slice_range cs from to) n
    c.partition_point.ensures.partitioned
    (IsPartitionedBy-leb (λ (x : Change). x.tick) (slice_range cs from to) c.args.tick
    (part_rises width cs form c.args.tick from to (omega arith) (omega arith))) (λ a r f h. search rules) in
    point_counts width cs form c.args.tick from to n (omega arith) (omega arith) c.partition_point.ensures.bound
    c.search_start-from.ensures.earlier c.search_end-to.ensures.later
    (λ k early. point.0 k no_change (omega arith) early) (λ k late within. point.1 k no_change late within)
