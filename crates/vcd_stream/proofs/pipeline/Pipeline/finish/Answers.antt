use Rattle.std.proofs.Common.{◌++◌, ap, ◌∙◌}
use Rattle.vcd_stream.specs.Stages.{all_seen, given_by_all}
use Rattle.vcd_stream.proofs.shared.Pipelines.{all_out}
use Rattle.vcd_stream.proofs.pipeline.Pipeline.finish.Goals as goal

pub returns : goal.returns
returns g c =
    let letters = g.V.Letters.letters c.args.self.width in
    all_out letters c.args.out.now.items _ c.finish_through.new.batch.items c.clear.new.self.items
    c.args.self.stages.items
    (c.in_ok-extend_from_slice.ensures.items ∙ ap (λ b. c.args.out.now.items ++ b) c.as_slice-2.ensures.value)
    (c.in_ok-finish_through.ensures
    ∙ ap (λ ss. given_by_all letters ss (all_seen letters c.clear.new.self.items)) c.as_slice.ensures.value)
    c.clear.ensures.items
