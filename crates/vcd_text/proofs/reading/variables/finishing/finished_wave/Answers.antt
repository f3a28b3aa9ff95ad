use Rattle.std.proofs.Common.{◌≡◌, ◌∙◌, map, set, get_or, sym, ap, arith}
use Rattle.std.proofs.lemmas.List.{map-set, get_or-map, set-get_or}
use Rattle.std.proofs.lemmas.Option.{slice_get_cases}
use Rattle.vcd_core.specs.declared.capture.Signal.{Signal}
use Rattle.vcd_core.specs.CaptureContents.{signal_contents}
use Rattle.vcd_text.proofs.reading.variables.finishing.finished_wave.Goals as goal

pub returns-then-first-before-clause-contents : goal.returns-then-first-before-clause-contents
returns-then-first-before-clause-contents c =
    let first = c.args.first in
    let before = c.args.before.now in
    let old = c.index-before-first.result in
    let item : Signal = get_or before first old in
    let same : signal_contents (record item { wave = c.share.new.self }) ≡ signal_contents item = λ i. record {
      scopes = item.scopes;
      kind = item.kind;
      words = item.words;
      width = c.share.ensures.kept_width i;
      changes = c.share.ensures.kept_changes i;
    } in
    map-set signal_contents before first (record item { wave = c.share.new.self })
    ∙ ap (set (map signal_contents before) first) (same ∙ sym (get_or-map signal_contents before first old
    (signal_contents old) c.if-first-before.true)) ∙ set-get_or (map signal_contents before) first (signal_contents old)

pub returns-clause-finished : goal.returns-clause-finished
returns-clause-finished c = grind (arith, slice_get_cases)
