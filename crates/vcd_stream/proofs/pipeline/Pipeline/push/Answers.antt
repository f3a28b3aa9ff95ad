use Rattle.std.proofs.Common.{refl}
use Rattle.vcd_stream.proofs.shared.EditedSignals.{gives_edited}
use Rattle.vcd_stream.proofs.pipeline.Pipeline.push.Goals as goal

pub returns-clause-gives : goal.returns-clause-gives
returns-clause-gives g c = λ fed d k sound gives.
    gives_edited g.V.Letters.letters c.args.self.now _ c.args.edit.now c.stage-stage.result fed d k
    c.in_ok-push.ensures.items refl
    c.end_after-self.ensures c.stage-stage.ensures sound gives
