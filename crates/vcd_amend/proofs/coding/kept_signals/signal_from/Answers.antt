use Rattle.std.proofs.Common.{◌≡◌, ℕ, ◌<◌, ◌≤◌, ◌∙◌, length, get_or, map, sym, arith, rules}
use Rattle.std.proofs.Math.Dec.{ltb}
use Rattle.std.proofs.lemmas.Bool.{ltb-true, ltb-false}
use Rattle.std.proofs.lemmas.List.{length-map}
use Rattle.std.proofs.lemmas.List.Sorted.{IsPartitionPoint-from_clause, IsPartitionedBy-ltb}
use Rattle.vcd_core.specs.CaptureContents.{signal_contents}
use Rattle.vcd_amend.proofs.shared.Lists.{at_item}
use Rattle.vcd_amend.proofs.coding.KeptSignals.{finds, finds_none, not_there, do_not_fall}
use Rattle.vcd_amend.proofs.coding.kept_signals.signal_from.Goals as goal
use Rattle.vcd_amend.proofs.coding.kept_signals.signal_from.Goals.{in_default-via-in-Some+else-origin-position}
use Rattle.vcd_amend.proofs.coding.kept_signals.signal_from.Goals.{in_default-via-in_default}

pub returns-in-Some : goal.returns-in-Some
returns-in-Some c =
    let os = c.args.origins.now in
    let xs = c.args.signals.now in
    let k = c.args.position in
    let i = c.partition_point-index.result in
    let point = IsPartitionPoint-from_clause (λ (x : ℕ). ltb x k) os i c.partition_point-index.ensures.partitioned
    (IsPartitionedBy-ltb (λ (x : ℕ). x) os k (do_not_fall 0 c.requires.rising.0 os c.requires.rising.1))
    (λ a r f h. search rules) in
    let below : (j : ℕ) → j < i → get_or os j 0 < k = λ j early. ltb-true _ _ (point.0 j 0 (omega arith) early) in
    let within : i < length os = ltb-true _ _ (sym c.in-Some.ensures.lookup.0) in
    let here : get_or os i 0 ≡ k = sym (c.in-Some.ensures.lookup.4 (omega arith) 0) ∙ c.if-origin-position.true in
    let long = length-map xs signal_contents in
    sym (finds k os (map signal_contents xs) i below within here (omega (arith, long))
    ∙ at_item signal_contents xs i c.index-signals-index.result (omega arith) c.index-signals-index.is)

pub returns-in_default : goal.returns-in_default
returns-in_default c =
    let os = c.args.origins.now in
    let k = c.args.position in
    let i = c.partition_point-index.result in
    let point = IsPartitionPoint-from_clause (λ (x : ℕ). ltb x k) os i c.partition_point-index.ensures.partitioned
    (IsPartitionedBy-ltb (λ (x : ℕ). x) os k (do_not_fall 0 c.requires.rising.0 os c.requires.rising.1))
    (λ a r f h. search rules) in
    let below : (j : ℕ) → j < i → j < length os → get_or os j 0 < k = λ j early within.
    ltb-true _ _ (point.0 j 0 (omega arith) early) in
    let above : (j : ℕ) → i ≤ j → j < length os → k ≤ get_or os j 0 = λ j late within.
    ltb-false _ _ (point.1 j 0 late within) in
    let here : i < length os → get_or os i 0 ≡ k → ⊥ = elim c.in_default.branch [
      | in_default-via-in-Some+else-origin-position w ↦ λ within is. w.if-origin-position.false
          (w.in-Some.ensures.lookup.4 (omega arith) 0 ∙ is)
      | in_default-via-in_default w ↦ λ within is. let past : length os ≤ i = w.in_default.ensures.lookup.3 in absurd
          (omega arith)
    ] in
    sym (finds_none k os (map signal_contents c.args.signals.now) (not_there c.requires.rising.0 k os i
    c.requires.rising.1 below above here))
