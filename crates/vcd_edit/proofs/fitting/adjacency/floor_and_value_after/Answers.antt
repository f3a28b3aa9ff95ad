use Rattle.std.proofs.Common.{◌≡◌, ◌∙◌, ◌+◌, [], w64, to_z, of_z, refl, sym, ap, subst, map, drop, arith}
use Rattle.std.proofs.lemmas.Int.{to_z-of_z}
use Rattle.std.proofs.lemmas.List.{drop_all}
use Rattle.vcd_core.specs.Splice.{moved_change}
use Rattle.vcd_core.specs.WavePush.{last_value}
use Rattle.vcd_edit.specs.inside.fitting.Adjacency.{floor_after, MayFollow}
use Rattle.vcd_edit.proofs.shared.Lists.{drop_here}
use Rattle.vcd_edit.proofs.fitting.adjacency.floor_and_value_after.Goals as goal

pub loop-change-init : goal.loop-change-init
loop-change-init c = (((λ may. may), (λ may. may)), refl, refl)

pub returns-in_default : goal.returns-in_default
unfolding MayFollow
returns-in_default c = λ may.
    let l = c.loop-change in
    let by = to_z w64 (of_z w64 c.args.by) in
    let all = subst (λ b. MayFollow b c.args.end c.args.floor c.args.before c.args.changes.now)
    (sym (to_z-of_z w64 c.args.by c.ranges.by)) may in
    c.in_default.ensures (subst (MayFollow by c.args.end l.from l.last)
    (drop_here c.args.changes.now l.change-index c.change-item.result c.loop-change-test.true c.change-item.is)
    (l.invariant.0.1 all)).0

pub loop-change-preserved : goal.loop-change-preserved
unfolding MayFollow floor_after last_value moved_change
loop-change-preserved c =
    let l = c.loop-change in
    let by = to_z w64 (of_z w64 c.args.by) in
    let x = c.change-item.result in
    let at = c.in-Some.ensures.1 in
    let more = sym (drop_here c.args.changes.now l.change-index x c.loop-change-test.true c.change-item.is) in
    let rest = drop (l.change-index + 1) c.args.changes.now in (
      (
        (λ may. l.invariant.0.0 (subst (MayFollow by c.args.end l.from l.last) more (
          c.in-Some.ensures.0,
          subst (λ n. MayFollow by c.args.end n x.value rest) at may,
        ))),
        (λ all. subst (λ n. MayFollow by c.args.end n x.value rest) (sym at)
            (subst (MayFollow by c.args.end l.from l.last) (sym more) (l.invariant.0.1 all)).1),
      ),
      ap (λ n. floor_after n (map (moved_change by) rest)) at
          ∙ ap (λ cs. floor_after l.from (map (moved_change by) cs)) more ∙ l.invariant.1,
      ap (λ cs. last_value l.last (map (moved_change by) cs)) more ∙ l.invariant.2,
    )

pub returns : goal.returns
unfolding MayFollow floor_after last_value
returns c =
    let l = c.loop-change in
    let by = to_z w64 (of_z w64 c.args.by) in
    let cs = c.args.changes.now in
    let none : drop l.change-index cs ≡ [] = drop_all l.change-index cs (omega (arith, c.loop-change-test.false)) in
    let is = to_z-of_z w64 c.args.by c.ranges.by in (
      subst (λ b. MayFollow b c.args.end c.args.floor c.args.before cs) is
          (l.invariant.0.0 (subst (MayFollow by c.args.end l.from l.last) (sym none) tt)),
      ap (λ l'. floor_after l.from (map (moved_change by) l')) (sym none) ∙ l.invariant.1
          ∙ ap (λ b. floor_after c.args.floor (map (moved_change b) cs)) is,
      ap (λ l'. last_value l.last (map (moved_change by) l')) (sym none) ∙ l.invariant.2
          ∙ ap (λ b. last_value c.args.before (map (moved_change b) cs)) is,
    )
