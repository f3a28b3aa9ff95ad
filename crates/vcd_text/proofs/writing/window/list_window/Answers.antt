-- Each turn lists the keys of one signal.
use Rattle.std.proofs.Common.{◌<◌, length, sym, ap, ◌∙◌, arith}
use Rattle.std.proofs.lemmas.List.{length-set}
use Rattle.vcd_core.specs.declared.capture.Signal.{Signal}
use Rattle.vcd_text.specs.declared.writing.cursors.Cursor.{Cursor}
use Rattle.vcd_text.proofs.writing.window.WindowOrder.{one_listed, all_listed}
use Rattle.vcd_text.proofs.writing.cursors.NextChange.{passed_next}
use Rattle.vcd_text.proofs.writing.window.list_window.Goals as goal

pub list_signal-requires-clause-next : goal.list_signal-requires-clause-next
list_signal-requires-clause-next c =
    let k = c.loop-position.position in
    let none : Cursor = record { index = 0; tick = 0; following_tick = 0 } in
    rw (ap (λ (x : Signal). x.wave.changes) (sym c.index-signals-position.is))
    at (c.requires.start_cursors.each k c.index-signals-position.result none (omega arith))

pub returns-in-None-clause-keys : goal.returns-in-None-clause-keys
returns-in-None-clause-keys c =
    c.list_signal.ensures.keys (length c.args.signals.now) (omega arith) c.loop-position.invariant.keys

pub returns-clause-next : goal.returns-clause-next
returns-clause-next c = λ _. record {
  all = c.loop-position.invariant.next_count;
  each = λ k s n inside. c.loop-position.invariant.passed k s n (omega arith);
}

pub returns-clause-all : goal.returns-clause-all
returns-clause-all c = λ all. all_listed c.args.ticks.start c.args.ticks.end c.loop-position.position
    c.args.signals.now _ _ (omega arith) c.loop-position.invariant.all

pub loop-position-preserved : goal.loop-position-preserved
loop-position-preserved c =
    let k = c.loop-position.position in
    let signals = c.args.signals.now in
    let s = c.index-signals-position.result in
    let kept = c.loop-position.invariant in
    let inside : k < length signals = omega arith in
    record {
      all = one_listed c.args.ticks.start c.args.ticks.end k signals s _ _ _ inside c.index-signals-position.is
          c.in-Some.ensures.all kept.all;
      keys = c.list_signal.ensures.keys (length signals) inside kept.keys;
      next_count = length-set c.loop-position.cursors k c.in-Some.next ∙ kept.next_count;
      passed = passed_next c.args.ticks.end k signals c.loop-position.cursors s c.in-Some.next inside kept.next_count
          c.index-signals-position.is c.in-Some.ensures.next kept.passed;
      room = omega (arith, kept.room, c.list_signal.ensures.room);
    }
