use Rattle.std.proofs.Common.{◌++◌, ◌∷◌, [], sym, ap, subst, ◌∙◌}
use Rattle.vcd_stream.specs.Pipelines.{IsFileStage}
use Rattle.vcd_stream.proofs.shared.EditedSignals.{gives_of_file}
use Rattle.vcd_stream.proofs.pipeline.Pipeline.of_file.Goals as goal

pub returns-clause-gives : goal.returns-clause-gives
returns-clause-gives g c = λ fed d k width end has.
    let letters = g.V.Letters.letters in
    let stage = c.file_stage.result in
    let wave = c.of_wave-pipeline.ensures in
    gives_of_file letters _ stage fed d k (c.in_ok-push.ensures.items ∙ ap (λ l. l ++ stage ∷ []) wave.stages)
    (width ∙ sym wave.width) (end ∙ sym wave.end)
    (subst (λ w. IsFileStage (letters w) w stage) (sym wave.width) c.file_stage.ensures) has
