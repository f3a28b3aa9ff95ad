-- Each turn writes the value of one signal.
use Rattle.std.proofs.Common.{◌≡◌, ◌<◌, ◌+◌, ℕ, List, ◌++◌, length, map, drop, get_or, arith}
use Rattle.std.specs.List.{enumerate_from, flat_map}
use Rattle.std.proofs.lemmas.List.{drop_all, drop_more}
use Rattle.vcd_core.specs.declared.capture.Signal.{Signal}
use Rattle.vcd_core.specs.CaptureContents.{signal_contents}
use Rattle.vcd_core.specs.Wave.{value_at}
use Rattle.vcd_text.specs.Text.{code_of, item_line, value_item, value_items}
use Rattle.vcd_text.proofs.shared.EmittedParts.{prefix_grows, prefix_whole}
use Rattle.vcd_text.proofs.writing.first_values.write_all_values.Goals as goal

-- the lines of the signals from a position on
abbrev values_from : ℕ → List Signal → List ℕ
values_from k signals = flat_map item_line (value_items 0 (enumerate_from k (map signal_contents signals)))

constant_piece : (k : ℕ) (signals : List Signal) (s : Signal) → k < length signals → s ≡ get_or signals k s
    → values_from k (drop k signals) ≡ item_line (value_item (code_of k) (value_at s.wave.width s.wave.changes 0))
    ++ values_from (k + 1) (drop (k + 1) signals)
constant_piece k signals s within at = grind (arith, drop_more)

pub loop-position-preserved : goal.loop-position-preserved
loop-position-preserved g c = prefix_grows _ c.loop-position.invariant c.write_value_near.ensures
    (constant_piece c.loop-position.position c.args.signals.now c.index-signals-position.result
    (omega arith) c.index-signals-position.is)

pub returns : goal.returns
returns g c = prefix_whole c.loop-position.invariant (grind (arith, drop_all))
