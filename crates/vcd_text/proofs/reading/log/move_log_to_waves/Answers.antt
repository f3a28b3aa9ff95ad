use Rattle.std.proofs.Common.{◌≡◌, ◌++◌, ◌∷◌, ℕ, List, arith}
use Rattle.std.specs.Global.{Vec}
use Rattle.std.proofs.lemmas.List.{length-append}
use Rattle.vcd_text.specs.inside.reading.Log.{changes_of_position, logged, CanMoveLog, MovesLog}
use Rattle.vcd_text.specs.declared.reading.log.LoggedChange.{LoggedChange}
use Rattle.vcd_text.specs.declared.reading.variables.Variable.{Variable}
use Rattle.vcd_text.proofs.reading.log.MovedToWaves.{moves_then, can_still, all_within, all_counted}
use Rattle.vcd_text.proofs.reading.log.move_log_to_waves.Goals as goal

-- the changes of a group come before those of the groups after it
module _ (kept : List Variable) (groups rest : List (Vec LoggedChange)) (group : Vec LoggedChange)
    (changes : List LoggedChange) (are : groups ≡ group ∷ rest) (is : changes ≡ group.items) where
  can_move_next : CanMoveLog kept (logged groups)
      → CanMoveLog kept (λ position. changes_of_position position changes ++ logged rest position)
  can_move_next can = rw is (rw are at can)

pub count_changes-requires : goal.count_changes-requires
count_changes-requires c = all_within c.loop-group.kept.items c.as_slice-changes.result.now
    (logged c.next.new.self.rest.items) (λ position some.
    let v = can_move_next c.loop-group.kept.items _ c.next.new.self.rest.items c.in-Some.group
    c.as_slice-changes.result.now c.in-Some.ensures.steps.0 c.as_slice-changes.ensures.value c.loop-group.invariant.0
    position some in (v.0, v.1))

pub move_group-requires : goal.move_group-requires
move_group-requires c =
    let rest = c.next.new.self.rest.items in
    let kept = c.loop-group.kept.items in
    let changes = c.as_slice-changes.result.now in
    let log : ℕ → List LoggedChange = λ position. changes_of_position position changes ++ logged rest position in (
      logged rest,
      can_still kept c.count_changes.new.kept.items log log (λ position some. some) (rw c.count_changes.ensures
          (all_counted changes kept log)) (can_move_next kept _ rest c.in-Some.group changes c.in-Some.ensures.steps.0
          c.as_slice-changes.ensures.value c.loop-group.invariant.0),
    )

pub loop-group-preserved : goal.loop-group-preserved
loop-group-preserved c =
    let group = c.in-Some.group.items in
    let rest = c.next.new.self.rest.items in
    let kept = c.loop-group.kept.items in
    let new = c.move_group.new.kept.items in
    let all = c.loop-group.group-iterator.rest.items in
    let changes = c.as_slice-changes.result.now in
    let log : ℕ → List LoggedChange = λ position. changes_of_position position changes ++ logged rest position in
    let step : MovesLog kept new (logged all) (logged rest) = rw c.in-Some.ensures.steps.0
    (rw c.as_slice-changes.ensures.value at (moves_then kept c.count_changes.new.kept.items new log log (logged rest)
    (rw c.count_changes.ensures (all_counted changes kept log)) (c.in_ok-move_group.ensures (logged rest)))) in (
      can_still kept new (logged all) (logged rest) (λ position some. rw c.in-Some.ensures.steps.0
          (omega (arith, some, length-append (changes_of_position position group) (logged rest position)))) step
          c.loop-group.invariant.0,
      moves_then c.args.kept.now.items kept new (logged c.args.groups.items) (logged all) (logged rest)
          c.loop-group.invariant.1 step,
    )
