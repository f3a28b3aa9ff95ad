use Rattle.std.proofs.Common.{◌≡◌, ◌≤◌, ℕ, List, map, length, refl, sym, ap, ◌∙◌, arith}
use Rattle.std.proofs.lemmas.Bool.{and_parts}
use Rattle.std.proofs.lemmas.List.{length-map}
use Rattle.std.proofs.lemmas.List.Elements.{All-nil}
use Rattle.vcd_core.specs.CaptureContents.{contents, signal_contents}
use Rattle.vcd_core.specs.Contents.{SignalContents}
use Rattle.vcd_text.specs.Words.{words_of}
use Rattle.vcd_text.specs.Grammar.{ValueChange, initial_state, kept_variables}
use Rattle.vcd_text.specs.Meaning.{meaning, declared_signal}
use Rattle.vcd_text.specs.inside.reading.OpenItems.{is_nothing}
use Rattle.vcd_text.specs.inside.reading.Part.{Asked, seen_state, seen_tick, remaining, listed_part}
use Rattle.vcd_text.specs.inside.reading.Parser.{HasTakenWords}
use Rattle.vcd_text.proofs.shared.NoWordLeft.{accepts}
use Rattle.vcd_text.proofs.part.LateChanges.{UpToTick, late_after}
use Rattle.vcd_text.proofs.part.PartMeanings.{signals_of_part, asked_part_is}
use Rattle.vcd_text.proofs.reading.parser.Parser.into_loaded.Goals as goal

pub returns : goal.returns
returns c =
    let capture = c.new-capture.result in
    let parts = c.new-capture.ensures in
    let self = c.args.self in
    let in_body = (and_parts self.in_body (is_nothing self.item) c.requires.complete).0 in
    let same : (limit : ℕ) (asked : Asked) (bytes : List ℕ) (r : HasTakenWords limit asked self (words_of bytes))
    → contents capture ≡ listed_part self.part (meaning r.state) = λ limit asked bytes r.
    let at = r.at.0 in
    let late : UpToTick r.state.tick r.state.value_changes =
    rw r.state_is at (late_after (initial_state limit) r.items r.allowed (All-nil (λ (v : ValueChange). v.tick ≤ 0))) in
    let signals = ap (map signal_contents) parts.signals ∙ c.in_ok-signals.ensures
    ∙ ap (remaining c.as_slice.result.now) (c.in_ok-all.ensures (seen_state self.part r.state at.seen) at.variables)
    ∙ ap (λ out. remaining out (map (declared_signal at.seen (seen_tick self.part r.state.tick))
    (kept_variables r.state.declared))) c.as_slice.ensures.value ∙ signals_of_part self.part r.state at.seen at.tells
    late in
    λ i. record {
      header = (parts.header ∙ at.header) i;
      timescale = (parts.timescale ∙ at.timescale) i;
      end = (parts.end ∙ c.seen_tick.ensures ∙ ap (seen_tick self.part) at.tick) i;
      signals = signals i;
    } in
    record {
      means = λ limit asked bytes r.
          let at = r.at.0 in
          let late = sym at.in_body ∙ in_body in
          record {
            whole = meaning r.state;
            means = record {
              state = r.state;
              accepted = accepts limit asked self (words_of bytes) r c.requires.complete;
              means = refl;
              left_out = at.variables.skipped;
            };
            is = same limit asked bytes r ∙ asked_part_is asked self.part r.state (at.is_asked late);
            end = at.tick;
            count = omega (
              arith,
              c.len-count.ensures,
              c.in_ok-all.all.ok.0,
              length-map c.in_ok-all.all.items signal_contents,
              ap (length {A = SignalContents}) (c.in_ok-all.ensures (seen_state self.part r.state at.seen)
                  at.variables),
              length-map (kept_variables r.state.declared) (declared_signal at.seen (seen_tick self.part r.state.tick)),
              length-map (kept_variables r.state.declared) (declared_signal r.state.value_changes r.state.tick),
            );
          };
    }
