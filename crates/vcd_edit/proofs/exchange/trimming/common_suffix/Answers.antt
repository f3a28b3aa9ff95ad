use Rattle.std.proofs.Common.{◌≡◌, ◌∙◌, sym, subst, reverse, neg_ℤ, w64, to_z, of_z, arith}
use Rattle.std.proofs.lemmas.List.{length-reverse}
use Rattle.std.proofs.lemmas.Int.{to_z-of_z}
use Rattle.vcd_edit.specs.Touched.{same_moved_change, common_moved_suffix}
use Rattle.vcd_edit.proofs.exchange.trimming.TrimmedPieces.{walk_end, back_stops, back_more}
use Rattle.vcd_edit.proofs.exchange.trimming.common_suffix.Goals as goal

pub returns-then-not-is_moved-clause-count : goal.returns-then-not-is_moved-clause-count
returns-then-not-is_moved-clause-count c =
    let xs = c.args.old.now in
    let ys = c.args.new.now in
    subst (λ b. c.loop-i.i ≡ common_moved_suffix (neg_ℤ b) xs ys) (to_z-of_z w64 c.args.by c.ranges.by)
    (back_stops (same_moved_change (neg_ℤ (to_z w64 (of_z w64 c.args.by)))) xs ys c.loop-i.i c.index-old-old.result
    c.index-new-new.result (omega arith) (omega arith)
    c.index-old-old.is c.index-new-new.is (sym c.is_moved.ensures ∙ c.if-not-is_moved.true) c.loop-i.invariant)

pub loop-i-preserved : goal.loop-i-preserved
loop-i-preserved c =
    back_more (same_moved_change (neg_ℤ (to_z w64 (of_z w64 c.args.by)))) c.args.old.now c.args.new.now c.loop-i.i
    c.index-old-old.result c.index-new-new.result (omega arith) (omega arith)
    c.index-old-old.is c.index-new-new.is (sym c.is_moved.ensures ∙ c.if-not-is_moved.false) c.loop-i.invariant

pub returns-clause-count : goal.returns-clause-count
returns-clause-count c =
    let xs = c.args.old.now in
    let ys = c.args.new.now in
    subst (λ b. c.min-most.result ≡ common_moved_suffix (neg_ℤ b) xs ys) (to_z-of_z w64 c.args.by c.ranges.by)
    (walk_end (same_moved_change (neg_ℤ (to_z w64 (of_z w64 c.args.by)))) (reverse xs) (reverse ys) c.loop-i.i
    c.min-most.result
    (omega (arith, length-reverse xs, length-reverse ys)) (omega arith) (omega arith) c.loop-i.invariant)
