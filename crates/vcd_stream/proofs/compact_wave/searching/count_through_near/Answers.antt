use Rattle.std.proofs.Common.{◌≡◌, ℕ, ◌+◌, ◌-◌, true, false, drop, slice_range, get_or, arith, rules, ap}
use Rattle.std.proofs.Common.{inl, inr}
use Rattle.std.specs.List.Sorted.{IsPartitionPoint}
use Rattle.std.proofs.Math.Dec.{leb}
use Rattle.std.proofs.lemmas.Bool.{cases_lt, leb-true, leb-false}
use Rattle.std.proofs.lemmas.List.Edits.{length-between, get_or-between}
use Rattle.std.proofs.lemmas.List.Sorted.{IsPartitionPoint-from_clause, IsPartitionedBy-leb}
use Rattle.std.proofs.lemmas.List.Sorted.{IsNonDecreasingBy-take, IsNonDecreasingBy-drop}
use Rattle.vcd_stream.proofs.compact_wave.searching.count_through_near.Goals as goal

-- where the search found that the part ends
point : (c : goal.After-partition_point) → IsPartitionPoint (λ x. leb x c.args.tick ≡ true)
    (λ x. leb x c.args.tick ≡ false) (slice_range c.args.ticks.now c.search_start-from.result c.search_end-to.result)
    c.partition_point.result
point c =
    let ts = c.args.ticks.now in
    let from = c.search_start-from.result in
    let to = c.search_end-to.result in
    IsPartitionPoint-from_clause (λ (x : ℕ). leb x c.args.tick) (slice_range ts from to) c.partition_point.result
    c.partition_point.ensures.partitioned (IsPartitionedBy-leb (λ (x : ℕ). x) (slice_range ts from to) c.args.tick
    (IsNonDecreasingBy-take (λ (x : ℕ). x) (to - from) (drop from ts)
    (IsNonDecreasingBy-drop (λ (x : ℕ). x) from ts c.requires))) (λ a r f h. search rules)

pub returns-clause-early : goal.returns-clause-early
returns-clause-early c = λ some.
    let ts = c.args.ticks.now in
    let from = c.search_start-from.result in
    let to = c.search_end-to.result in
    let n = c.partition_point.result in
    let long = length-between ts from to c.search_end-to.ensures.within in
    elim (cases_lt 0 n) [
      | inl more ↦
          let at : get_or ts (from + (n - 1)) 0 ≡ get_or ts (from + n - 1) 0 = ap (λ k. get_or ts k 0) (omega arith) in
          omega (
            arith,
            at,
            get_or-between ts from to (n - 1) 0 (omega (arith, long, c.partition_point.ensures.bound)),
            leb-true _ _ ((point c).0 (n - 1) 0 (omega (arith, c.partition_point.ensures.bound)) (omega arith)),
          )
      | inr none ↦
          let at : get_or ts (from + n - 1) 0 ≡ get_or ts (from - 1) 0 = ap (λ k. get_or ts k 0) (omega arith) in
          omega (arith, at, c.search_start-from.ensures.early (omega arith))
    ]

pub returns-clause-late : goal.returns-clause-late
returns-clause-late c = λ inside.
    let ts = c.args.ticks.now in
    let from = c.search_start-from.result in
    let to = c.search_end-to.result in
    let n = c.partition_point.result in
    let long = length-between ts from to c.search_end-to.ensures.within in
    elim (cases_lt (from + n) to) [
      | inl within ↦ omega (
        arith,
        get_or-between ts from to n 0 within,
        leb-false _ _ ((point c).1 n 0 (omega arith) (omega (arith, long))),
      )
      | inr past ↦
          let at : get_or ts (from + n) 0 ≡ get_or ts to 0 =
          ap (λ k. get_or ts k 0) (omega (arith, long, c.partition_point.ensures.bound)) in
          omega (arith, at, c.search_end-to.ensures.late (omega (arith, long, c.partition_point.ensures.bound)))
    ]
