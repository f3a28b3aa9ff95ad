-- Each turn writes the transitions of one window.
use Rattle.std.proofs.Common.{map, refl, arith, ap, ◌∙◌}
use Rattle.vcd_core.specs.CaptureContents.{signal_contents}
use Rattle.vcd_text.specs.inside.writing.Window.{transitions_of}
use Rattle.vcd_text.proofs.writing.transitions.ItemsOfTicks.{end_left, window_written}
use Rattle.vcd_text.proofs.shared.EmittedParts.{prefix_grows, prefix_whole}
use Rattle.std.proofs.lemmas.List.{with_items_is}
use Rattle.vcd_text.proofs.writing.transitions.write_transitions.Goals as goal

pub loop-from-preserved : goal.loop-from-preserved
loop-from-preserved g c =
    let signals = map signal_contents c.args.signals.now in
    let filled = c.fill_window-count in
    let written = c.write_keys-last in
    let ready = filled.ensures.ready in
    let all = ap (transitions_of c.loop-from.from) c.as_slice-keys.ensures.value ∙ filled.ensures.all in
    record {
      text =
          prefix_grows _ c.loop-from.invariant.text written.ensures.text
          (window_written signals c.args.end c.loop-from.last written.result c.loop-from.from filled.result _ all
          written.ensures.last filled.ensures.within);
      ready = record {
        few = ready.few;
        sound = ready.sound;
        some = ready.some;
        room = ready.room;
        next = ready.next;
        start_cursors = grind (arith, with_items_is);
      };
      within = filled.ensures.within;
      some = c.next_window_ticks-most.ensures;
    }

pub returns : goal.returns
returns g c = prefix_whole (prefix_grows _ c.loop-from.invariant.text c.write_new_stamp.ensures
    (end_left (map signal_contents c.args.signals.now) c.args.end c.loop-from.last c.loop-from.from (omega arith))) refl
