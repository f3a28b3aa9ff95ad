use Rattle.std.proofs.Common.{refl, arith}
use Rattle.std.proofs.lemmas.Grind.{common_steps}
use Rattle.std.proofs.lemmas.List.{map-append, with_items_is}
use Rattle.std.specs.Prelude.{slice_get}
use Rattle.vcd_core.specs.declared.capture.Signal.{Signal}
use Rattle.vcd_text.specs.inside.reading.Variables.{Finishes}
use Rattle.vcd_text.proofs.reading.variables.finishing.push_signal.Goals as goal

pub returns : goal.returns
returns c =
    let v = c.args.variable in
    let signal : Signal = record {
      scopes = c.in_ok-scopes.scopes;
      kind = v.kind;
      words = v.words;
      wave = c.in_ok-wave.wave;
    } in
    let finishes : Finishes c.args.chains.now v (slice_get c.args.signals.now.items v.first) signal =
    record { scopes = grind (arith, common_steps); kind = refl; words = refl; wave = grind arith } in
    (signal, finishes, grind (arith, common_steps, with_items_is, map-append))
