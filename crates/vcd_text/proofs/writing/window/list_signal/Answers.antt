-- Each turn lists the key of the next change, which is in the window.
use Rattle.std.proofs.Common.{◌<◌, ◌+◌, ◌++◌, inr, length, drop, sym, ap, ◌∙◌, arith}
use Rattle.std.proofs.lemmas.List.{length-append, length-map}
use Rattle.vcd_text.specs.inside.writing.Cursors.{tick_at}
use Rattle.vcd_text.specs.inside.writing.Transitions.{Transition, window_of_signal}
use Rattle.vcd_text.specs.inside.writing.Window.{transition_of_key, transitions_of}
use Rattle.vcd_text.proofs.writing.cursors.NextChange.{goes_on, steps}
use Rattle.vcd_text.proofs.writing.window.WindowOrder.{key_holds, one_key}
use Rattle.vcd_text.proofs.writing.window.list_signal.Goals as goal

pub loop-next-preserved : goal.loop-next-preserved
loop-next-preserved c =
    let kept = c.loop-next.invariant in
    let next = c.loop-next.next in
    let keys = c.loop-next.keys.items in
    let new = c.push_in_room.new.keys.items in
    let cs = c.args.wave.now.changes in
    let more = c.following_change-next.ensures in
    let early : next.tick < c.args.ticks.end = omega arith in
    record {
      next = goes_on _ c.args.ticks.start c.args.ticks.end cs next c.following_change-next.result
          (rw c.changes-changes.ensures.changes at c.changes-changes.ensures.form) kept.next early
          c.requires.end more.index more.tick
          (more.following_tick ∙ ap (λ l. tick_at l (next.index + 2)) c.changes-changes.ensures.changes);
      all =
          ap (λ k. transitions_of c.args.ticks.start new
          ++ window_of_signal c.args.ticks.start c.args.ticks.end c.args.position (drop k cs)) more.index
          ∙ one_key c.args.ticks.start next.tick c.args.position c.key_of.result keys new _ _ c.requires.position
          kept.next.not_earlier c.key_of.ensures c.push_in_room.ensures.items
          (ap (λ w. transitions_of c.args.ticks.start keys ++ w)
          (sym (steps c.args.ticks.start c.args.ticks.end c.args.position cs next kept.next early c.requires.end))
          ∙ kept.all);
      keys = λ count inside all. key_holds c.args.ticks.start next.tick c.args.position count c.key_of.result keys new
          c.requires.position inside kept.next.not_earlier (omega (arith, c.requires.end)) c.key_of.ensures
          c.push_in_room.ensures.items (kept.keys count inside all);
      room = omega (arith, kept.room, c.push_in_room.ensures.room);
    }

pub returns-then-len-capacity-clause-no_room_or_too_far : goal.returns-then-len-capacity-clause-no_room_or_too_far
returns-then-len-capacity-clause-no_room_or_too_far c = inr (
    let kept = c.loop-next.invariant in
    let next = c.loop-next.next in
    let cs = c.args.wave.now.changes in
    let keys = c.loop-next.keys.items in
    let old = c.args.keys.now.items in
    let window = window_of_signal c.args.ticks.start c.args.ticks.end c.args.position in
    omega (
      arith,
      kept.room,
      ap (length {A = Transition}) kept.all,
      ap (length {A = Transition})
          (steps c.args.ticks.start c.args.ticks.end c.args.position cs next kept.next (omega arith) c.requires.end),
      length-append (transitions_of c.args.ticks.start keys) (window (drop next.index cs)),
      length-append (transitions_of c.args.ticks.start old) (window cs),
      length-map keys (transition_of_key c.args.ticks.start),
      length-map old (transition_of_key c.args.ticks.start),
    ))
