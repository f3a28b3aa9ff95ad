use Rattle.std.proofs.Common.{◌++◌, ◌∷◌, [], ap, ◌∙◌, arith}
use Rattle.std.proofs.lemmas.List.{with_items_is}
use Rattle.vcd_stream.specs.Stages.{all_seen, given_by_all}
use Rattle.vcd_stream.proofs.shared.Pipelines.{fed_one}
use Rattle.vcd_stream.proofs.pipeline.Pipeline.take.Goals as goal

pub returns-clause-gives : goal.returns-clause-gives
returns-clause-gives g c =
    let letters = g.V.Letters.letters c.args.self.now.width in
    fed_one letters c.args.out.now.items _ c.take_through.new.batch.items c.push.new.self.items c.args.change _ _
    (c.in_ok-extend_from_slice.ensures.items ∙ ap (λ b. c.args.out.now.items ++ b) c.as_slice.ensures.value)
    (c.in_ok-push.ensures.items ∙ ap (λ l. l ++ c.args.change ∷ []) c.clear.ensures.items)
    (λ more. ap (λ ss. all_seen letters c.take_through.new.batch.items ++ given_by_all letters ss more)
    (with_items_is c.args.self.now.stages c.take_through.new.stages
    (omega (arith, c.take_through.auto.stages, c.as_mut_slice.ensures.len)))
    ∙ c.in_ok-take_through.ensures more
    ∙ ap (λ ss. given_by_all letters ss (all_seen letters c.push.new.self.items ++ more)) c.as_mut_slice.ensures.value)
