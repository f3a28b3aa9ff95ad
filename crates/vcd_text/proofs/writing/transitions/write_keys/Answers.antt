-- Each turn writes the change of one key.
use Rattle.std.proofs.Common.{◌<◌, ◌+◌, ◌/◌, ◌%◌, length, map, get_or, sym, ap, refl, ◌∙◌, arith}
use Rattle.std.proofs.lemmas.List.{get_or_default, length-set}
use Rattle.vcd_core.specs.CaptureContents.{signal_contents}
use Rattle.vcd_text.specs.Text.{code_of, item_line, value_item}
use Rattle.vcd_text.specs.declared.writing.window.TheConstants.{POSITIONS}
use Rattle.vcd_text.proofs.writing.window.WindowOrder.{value_there, none_written, one_later, one_written}
use Rattle.vcd_text.proofs.shared.EmittedParts.{prefix_begun, prefix_grows, prefix_whole, writes_as, writes_both}
use Rattle.vcd_text.proofs.writing.transitions.write_keys.Goals as goal

pub loop-k-init : goal.loop-k-init
loop-k-init g c = record { text = prefix_begun refl; last = refl; start_cursors = refl }

pub prefetch_changes-requires-clause-keys : goal.prefetch_changes-requires-clause-keys
prefetch_changes-requires-clause-keys g c = λ k d inside. (c.requires.keys k d inside).position

pub overflow_add-tick : goal.overflow_add-tick
overflow_add-tick g c = omega (arith, (c.requires.keys c.loop-k.k 0 (omega arith)).tick)

pub bounds-signals-position : goal.bounds-signals-position
bounds-signals-position g c = omega (arith, (c.requires.keys c.loop-k.k 0 (omega arith)).position)

pub loop-k-preserved : goal.loop-k-preserved
loop-k-preserved g c =
    let keys = c.args.window.keys.now in
    let k = c.loop-k.k in
    let kept = c.loop-k.invariant in
    let signals = c.args.signals.now in
    let inside : k < length keys = omega arith in
    let key = get_or keys k 0 in
    let there = (c.requires.keys k 0 inside).position in
    let s = get_or signals (key % POSITIONS) c.index-signals-position.result in
    let value = value_there signals s (key % POSITIONS) (c.args.window.from + key / POSITIONS) there
    (get_or_default signals (key % POSITIONS) c.index-signals-position.result s there) in
    record {
      text = prefix_grows _ kept.text (writes_both c.write_new_stamp.ensures (writes_as (ap (λ v. item_line (value_item
          (code_of (key % POSITIONS)) v)) (sym value)) c.write_value_near.ensures)) (one_written (map signal_contents
          signals) c.args.window.from c.loop-k.last k keys inside);
      last = one_later c.args.window.from c.loop-k.last k _ keys inside kept.last;
      start_cursors = length-set c.prefetch_changes.new.start_cursors (key % POSITIONS) _ ∙ c.prefetch_changes.ensures
          ∙ kept.start_cursors;
    }

pub returns-clause-text : goal.returns-clause-text
returns-clause-text g c = prefix_whole c.loop-k.invariant.text (none_written
    (map signal_contents c.args.signals.now) c.args.window.from c.loop-k.last c.loop-k.k c.args.window.keys.now
    (omega arith))
