use Rattle.std.proofs.Common.{◌≡◌, ◌≤◌, List, map, refl, sym, ap, subst, ◌∙◌, arith}
use Rattle.std.proofs.lemmas.Bool.{and_parts}
use Rattle.std.proofs.lemmas.List.Elements.{All-nil}
use Rattle.vcd_core.specs.CaptureContents.{contents, signal_contents}
use Rattle.vcd_core.specs.Contents.{Contents, SignalContents}
use Rattle.vcd_core.specs.Outline.{without_changes}
use Rattle.vcd_text.specs.Words.{words_of}
use Rattle.vcd_text.specs.Grammar.{ValueChange, initial_state, kept_variables}
use Rattle.vcd_text.specs.Meaning.{FileMeans, meaning, declared_signal}
use Rattle.vcd_text.specs.Parts.{part_of}
use Rattle.vcd_text.specs.inside.reading.OpenItems.{is_nothing}
use Rattle.vcd_text.specs.inside.reading.Part.{seen_state, seen_tick, remaining, LeavesOut, all_ticks}
use Rattle.vcd_text.proofs.shared.NoWordLeft.{accepts}
use Rattle.vcd_text.proofs.shared.SoundMeaning.{IsSoundBut}
use Rattle.vcd_text.proofs.part.WholeParts.{file_is_sound}
use Rattle.vcd_text.proofs.part.LateChanges.{UpToTick, late_after}
use Rattle.vcd_text.proofs.part.PartMeanings.{signals_of_part, asked_part_is}
use Rattle.vcd_hollow.specs.HollowPart.{with_taken}
use Rattle.vcd_amend_run.specs.inside.HeardNames.{hears, hollow_by, asked_for}
use Rattle.vcd_amend_run.proofs.hollow_reading.HollowSignals.{same_outlines, undriven_signals, hollow_outlines}
use Rattle.vcd_amend_run.proofs.hollow_reading.HollowSignals.{hollow_signals, is_read}
use Rattle.vcd_amend_run.proofs.hollow_reading.into_hollow.Goals as goal

pub returns : goal.returns
returns c = λ limit bytes r.
    let self = c.args.parser in
    let names = c.args.names.now in
    let parts = c.new-capture.ensures in
    let at = r.at.0 in
    let ds = kept_variables r.state.declared in
    let whole : Contents = meaning r.state in
    let in_body = (and_parts self.in_body (is_nothing self.item) c.requires.complete).0 in
    let means : FileMeans limit bytes whole self.variables.skipped = record {
      state = r.state;
      accepted = accepts limit (asked_for names) self (words_of bytes) r c.requires.complete;
      means = refl;
      left_out = at.variables.skipped;
    } in
    let sound : IsSoundBut whole = file_is_sound limit bytes whole self.variables.skipped means in
    let late : UpToTick r.state.tick r.state.value_changes =
    rw r.state_is at (late_after (initial_state limit) r.items r.allowed (All-nil (λ (v : ValueChange). v.tick ≤ 0))) in
    let asked = at.is_asked (sym at.in_body ∙ in_body) in
    let seen : List SignalContents = map (declared_signal at.seen (seen_tick self.part r.state.tick)) ds in
    let leaves : LeavesOut (hears names) (map without_changes seen) self.part.left_out.items =
    subst (λ (ss : List SignalContents). LeavesOut (hears names) ss self.part.left_out.items)
    (undriven_signals at.seen (seen_tick self.part r.state.tick) ds) asked.leaves in
    let taken : remaining self.part.left_out.items seen ≡ (part_of (hears names) all_ticks whole).signals =
    signals_of_part self.part r.state at.seen at.tells late
    ∙ ap (λ (d : Contents). d.signals) (asked_part_is (asked_for names) self.part r.state asked) in
    let outlines : map without_changes seen ≡ map without_changes whole.signals =
    same_outlines at.seen r.state.value_changes (seen_tick self.part r.state.tick) r.state.tick ds in
    let read : (contents c.new-capture.result).signals ≡ map (hollow_by (hears names)) seen =
    ap (map signal_contents) parts.signals ∙ c.in_ok-signals.ensures
    ∙ ap (map (hollow_by (hears names))) (c.in_ok-all.ensures (seen_state self.part r.state at.seen) at.variables) in
    let end : (contents c.new-capture.result).end ≡ whole.end =
    parts.end ∙ omega (arith, c.min-end.ensures, at.tick, sound.end) in
    is_read names limit bytes whole (contents c.new-capture.result) self.variables.skipped means
    (λ i. record {
      header = (parts.header ∙ at.header) i;
      timescale = (parts.timescale ∙ at.timescale) i;
      end = end i;
      signals = (ap (map without_changes) read ∙ hollow_outlines (hears names) seen ∙ outlines) i;
    })
    (λ i. record {
      header = (parts.header ∙ at.header) i;
      timescale = (parts.timescale ∙ at.timescale) i;
      end = end i;
      signals = (read ∙ hollow_signals names self.part.left_out.items seen leaves
          ∙ λ j. with_taken (hears names) (outlines j) (taken j)) i;
    })
