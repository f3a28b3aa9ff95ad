use Rattle.std.proofs.Common.{◌∷◌, [], false, not, length, Bool, ap, ◌∙◌, arith}
use Rattle.std.specs.Prelude.{slice_index_or}
use Rattle.std.proofs.lemmas.List.{length-append}
use Rattle.vcd_text.specs.AsDeclared.{signal_declared}
use Rattle.vcd_text.specs.inside.reading.DeclaredSignals.{declared_contents}
use Rattle.vcd_text.proofs.reading.variables.SignalsOfVariables.{pushed_test}
use Rattle.vcd_text.proofs.reading.choice.left_out_signals.Goals as goal

pub loop-position-preserved : goal.loop-position-preserved
loop-position-preserved g c =
    let inv = c.loop-position.invariant in
    let x = signal_declared c.get.result in
    let pushed = c.in_ok-push.ensures.items in (
      omega (
        arith,
        ap (length {A = Bool}) pushed,
        length-append c.loop-position.left_out.items (not c.takes-takes.result ∷ []),
        inv.0,
      ),
      λ k s within at. ap (λ xs. slice_index_or xs k false) pushed ∙ pushed_test
          (g.C.Choice.takes c.args.choice.now) (declared_contents c.args.signals.now)
          c.loop-position.left_out.items (not c.takes-takes.result) c.loop-position.position x inv.0 c.get.ensures
          (ap not c.takes-takes.ensures) inv.1 k s within at,
    )
