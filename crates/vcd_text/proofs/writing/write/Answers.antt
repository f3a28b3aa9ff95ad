-- The parts in a row are the text.
use Rattle.std.proofs.Common.{◌≡◌, ◌++◌, ℕ, List, [], map, ap, refl, ◌∙◌, rules}
use Rattle.std.specs.List.{flat_map}
use Rattle.std.proofs.lemmas.List.{append-nil}
use Rattle.vcd_core.specs.declared.capture.Signal.{Signal}
use Rattle.vcd_core.specs.Contents.{Contents}
use Rattle.vcd_core.specs.CaptureContents.{contents, signal_contents}
use Rattle.vcd_core.specs.declared.device.Sink as sinks
use Rattle.vcd_text.specs.declared.writing.output.Output.{Output}
use Rattle.vcd_text.specs.Text.{first_items, item_line, text}
use Rattle.vcd_text.specs.inside.writing.Transitions.{items_of_ticks}
use Rattle.vcd_text.specs.inside.writing.Declarations.{declarations_text}
use Rattle.vcd_text.specs.EmittedText.{HasEmitted, Emits}
use Rattle.vcd_text.proofs.shared.EmittedParts.{whole_text, failed_prefix, flushed_whole, whole_written, writes_as}
use Rattle.vcd_text.proofs.shared.EmittedParts.{writes_both}
use Rattle.vcd_text.proofs.writing.write.Goals as goal

-- the whole text is written
all_written : {W : Type 0} {sink : sinks.Ghosts W} {o0 o1 o2 o3 o4 : Output W} (c : Contents) (signals : List Signal)
    (end : ℕ) → map signal_contents signals ≡ c.signals → end ≡ c.end → o0.unsent.items ≡ [] → o0.sent_count ≡ 0
    → Emits sink o0 o1 (declarations_text c)
    → Emits sink o1 o2 (flat_map item_line (first_items (map signal_contents signals)))
    → Emits sink o2 o3 (flat_map item_line (items_of_ticks (map signal_contents signals) end 1 end))
    → Emits sink o3 o4 [] → HasEmitted sink (sink.taken o0.writer.now) o4 (text c)
all_written c signals end same at empty none declarations first later sent = whole_written empty none
    (writes_as (append-nil _ ∙ ap (λ ss. declarations_text c ++ (flat_map item_line (first_items ss)
    ++ flat_map item_line (items_of_ticks ss end 1 end))) same
    ∙ ap (λ e. declarations_text c ++ (flat_map item_line (first_items c.signals)
    ++ flat_map item_line (items_of_ticks c.signals e 1 e))) at
    ∙ whole_text c)
    (writes_both (writes_both declarations (writes_both first later)) sent))

pub returns-clause-written : goal.returns-clause-written
returns-clause-written g c =
    let same : c.flush.new.writer ≡ c.writer-1.given.0 = search rules in
    rw same at (flushed_whole c.flush.new.writer c.flush.result
    (all_written (contents c.args.capture.now) c.signals-signals.result.now c.end-end.result
    (ap (map signal_contents) c.signals-signals.ensures) c.end-end.ensures c.in_ok-unsent.ensures.empty refl
    c.write_declarations.ensures c.write_first_values.ensures c.write_transitions.ensures c.send_buffer.ensures.written)
    c.send_buffer.ensures.empty c.flush.ensures.kept c.flush.ensures.was_ready)

pub returns-clause-failed : goal.returns-clause-failed
returns-clause-failed g c =
    let same : c.flush.new.writer ≡ c.writer-1.given.0 = search rules in
    rw same at (failed_prefix c.flush.new.writer c.flush.result
    (all_written (contents c.args.capture.now) c.signals-signals.result.now c.end-end.result
    (ap (map signal_contents) c.signals-signals.ensures) c.end-end.ensures c.in_ok-unsent.ensures.empty refl
    c.write_declarations.ensures c.write_first_values.ensures c.write_transitions.ensures c.send_buffer.ensures.written)
    c.flush.ensures.kept c.flush.ensures.fault c.flush.ensures.failed)
