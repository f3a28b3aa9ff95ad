-- The sorted keys list the transitions of all signals by tick. A window of one tick has room, so
-- more than one was tried.
use Rattle.std.proofs.Common.{◌≢◌, inl, inr, map, arith}
use Rattle.std.proofs.lemmas.List.{length-map, with_items_is}
use Rattle.std.proofs.lemmas.List.Sorted.{All-permutation}
use Rattle.vcd_core.specs.CaptureContents.{signal_contents}
use Rattle.vcd_text.specs.inside.writing.Window.{IsKey}
use Rattle.vcd_text.proofs.writing.window.WindowOrder.{one_tick_within, ordered_are}
use Rattle.vcd_text.proofs.writing.window.fill_window.Goals as goal

pub loop-count-preserved : goal.loop-count-preserved
loop-count-preserved c =
    let signals = map signal_contents c.args.signals.now in
    let ready = c.requires.ready in
    let one = one_tick_within c.args.end c.args.from 0 signals ready.some ready.sound in
    let over = c.list_window.ensures.no_room_or_too_far c.loop-count-test.true in
    let more : c.loop-count.count ≢ 1 = λ only. elim over [
      | inl far ↦ omega (arith, far, only)
      | inr full ↦ omega (
        arith,
        rw only at full,
        one,
        length-map c.args.signals.now signal_contents,
        ready.room,
        c.loop-count.invariant.room,
      )
    ] in
    record {
      next = grind (arith, with_items_is);
      tried = c.loop-count.invariant.tried;
      some = omega (arith, more, c.loop-count.invariant.some);
      within = omega (arith, c.loop-count.invariant.within);
      room = omega (arith, c.loop-count.invariant.room, c.list_window.ensures.room);
    }

pub returns-clause-all : goal.returns-clause-all
returns-clause-all c = ordered_are c.args.end c.args.from c.loop-count.count (map signal_contents c.args.signals.now) _
    _ c.requires.ready.some (c.list_window.ensures.all c.loop-count-test.false) c.sort_unstable.ensures.permutation
    c.sort_unstable.ensures.sorted c.requires.ready.sound

pub returns-clause-keys : goal.returns-clause-keys
returns-clause-keys c =
    All-permutation (IsKey c.args.from _) _ _ c.sort_unstable.ensures.permutation c.list_window.ensures.keys
