use Rattle.std.proofs.Common.{◌+◌, ◌++◌, drop, get_or, arith}
use Rattle.std.proofs.lemmas.List.{drop_more, drop_all}
use Rattle.vcd_text.specs.inside.reading.Log.{changes_of_position}
use Rattle.vcd_text.specs.declared.reading.log.LoggedChange.{LoggedChange}
use Rattle.vcd_text.proofs.reading.log.MovedToWaves.{can_apply, moves_one, moves_then, can_still, more_left}
use Rattle.vcd_text.proofs.reading.log.move_group.Goals as goal

pub move_change-requires : goal.move_change-requires
move_change-requires c =
    let group = c.args.group.now in
    let i = c.loop-change.change-index in
    let none : LoggedChange = record { tick = 0; position = 0; block = record { low = 0; high = 0 } } in
    let e = get_or group i none in
    let (rest, can) = c.loop-change.invariant.0 in
    can_apply e (drop (i + 1) group) rest c.loop-change.kept.items
    (rw (drop_more group i none c.loop-change-test.true) at can)

pub loop-change-preserved : goal.loop-change-preserved
loop-change-preserved c =
    let group = c.args.group.now in
    let i = c.loop-change.change-index in
    let none : LoggedChange = record { tick = 0; position = 0; block = record { low = 0; high = 0 } } in
    let e = get_or group i none in
    let left = drop (i + 1) group in
    let now = c.loop-change.kept.items in
    let new = c.move_change.new.kept.items in
    let more = drop_more group i none c.loop-change-test.true in
    let (after, can) = c.loop-change.invariant.0 in
    let takes = c.in_ok-move_change.ensures.applies in (
      (
        after,
        can_still now new (λ position. changes_of_position position (drop i group) ++ after position)
            (λ position. changes_of_position position left ++ after position) (λ position some. rw more
            (more_left e left (after position) position some)) (rw more (moves_one e left after now new takes)) can,
      ),
      λ rest. moves_then c.args.kept.now.items now new (λ position. changes_of_position position group ++ rest position)
          (λ position. changes_of_position position (drop i group) ++ rest position)
          (λ position. changes_of_position position left ++ rest position) (c.loop-change.invariant.1 rest)
          (rw more (moves_one e left rest now new takes)),
    )

pub returns : goal.returns
returns c = λ rest.
    rw (drop_all c.loop-change.change-index c.args.group.now (omega (arith, c.loop-change-test.false)))
    at (c.loop-change.invariant.1 rest)
