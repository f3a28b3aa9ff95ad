use Rattle.std.proofs.Common.{◌≡◌, ◌∙◌, ◌↔◌, ◌-◌, pos, w64, to_z, of_z, IsTrue, FitsSigned, sym, ap, subst, map}
use Rattle.std.proofs.Common.{length, take, drop, arith, rules}
use Rattle.std.proofs.lemmas.Bool.{false≢true}
use Rattle.std.proofs.lemmas.Int.{to_z-of_z}
use Rattle.std.proofs.lemmas.List.{take_rest}
use Rattle.vcd_core.proofs.shared.Pushes.{all_from_upto}
use Rattle.vcd_core.proofs.shared.Splices.{moved_nowhere}
use Rattle.vcd_core.specs.Splice.{moved_change}
use Rattle.vcd_core.specs.Value.{all_x}
use Rattle.vcd_core.specs.WavePush.{last_value}
use Rattle.vcd_edit.specs.inside.fitting.Adjacency.{floor_after, MayFollow}
use Rattle.vcd_edit.proofs.fitting.FittingPieces.{prefix_rises, refused, some_tells}
use Rattle.vcd_edit.proofs.fitting.adjacency.join_to_wave.Goals as goal

pub ends_by-requires : goal.ends_by-requires
ends_by-requires c =
    (0, all_x c.args.width, prefix_rises c.args.width c.args.changes.now c.args.piece.now.from c.requires.form)

pub returns-then-not-ends_by : goal.returns-then-not-ends_by
returns-then-not-ends_by c = refused c.ends_by.result _ c.if-not-ends_by.true (λ join. c.ends_by.ensures.1 join.0)

pub floor_after-floor-requires : goal.floor_after-floor-requires
floor_after-floor-requires c = λ k d less.
    let le = all_from_upto c.args.end (take c.args.piece.now.from c.args.changes.now)
    (c.ends_by.ensures.0 c.if-not-ends_by.false) k d less in
    omega (arith, le, c.requires.small)

pub returns-in_default : goal.returns-in_default
returns-in_default c = (
  (λ t. absurd (false≢true t)),
  (λ join. absurd (c.in_default.ensures (subst (λ (t : Type 0). t)
      (λ i. MayFollow (pos 0) c.args.end (sym c.floor_after-floor.ensures i) (sym c.last_value-before.ensures i)
      (sym c.as_slice-list.ensures.value i)) join.1))),
)

pub returns : goal.returns
returns c =
    let p = c.args.piece.now in
    let end = c.args.end in
    let cs = c.args.changes.now in
    let list = p.changes.items in
    let floor = floor_after 0 (take p.from cs) in
    let before = last_value (all_x c.args.width) (take p.from cs) in
    let floor_is = c.floor_after-floor.ensures in
    let before_is = c.last_value-before.ensures in
    let list_is = c.as_slice-list.ensures.value in
    let stays : map (moved_change (pos 0)) c.as_slice-list.result.now ≡ list =
    moved_nowhere c.as_slice-list.result.now ∙ list_is in
    let at_list : MayFollow (pos 0) end floor before list =
    subst (λ (t : Type 0). t) (λ i. MayFollow (pos 0) end (floor_is i) (before_is i) (list_is i)) c.in-Some.ensures.0 in
    let next_floor = c.in-Some.ensures.1 ∙ (λ i. floor_after (floor_is i) (stays i)) in
    let next_before = c.in-Some.ensures.2 ∙ (λ i. last_value (before_is i) (stays i)) in
    let range : FitsSigned w64 p.by = search rules in
    let by_is = to_z-of_z w64 p.by range in
    let told = some_tells c.floor_and_value_after-2.result
    (MayFollow (to_z w64 (of_z w64 p.by)) end c.in-Some.next.0 c.in-Some.next.1
    (take (length cs - p.to) (drop p.to cs))) _
    c.is_some.result (λ state may. may.0) c.is_some.ensures c.floor_and_value_after-2.ensures in
    let later = take_rest cs p.to in
    let tells : IsTrue c.is_some.result
    ↔ MayFollow p.by end (floor_after floor list) (last_value before list) (drop p.to cs) =
    subst (λ (t : Type 0). t) (λ i. IsTrue c.is_some.result
    ↔ MayFollow (by_is i) end (next_floor i) (next_before i) (later i)) told in (
      (λ t. (c.ends_by.ensures.0 c.if-not-ends_by.false, at_list, tells.0 t)),
      (λ join. tells.1 join.2),
    )
