-- The test of each event is that of its code.
use Rattle.std.proofs.Common.{rules, ◌∙◌}
use Rattle.std.proofs.lemmas.Fn.{filter_same}
use Rattle.vcd_part.proofs.events.events_left_out_at_first.Goals as goal

pub returns : goal.returns
returns c = λ r declared uses. c.from_vec.ensures
    ∙ filter_same _ _ _ (λ x b f' k. search rules) _ _ c.retain.ensures.filtered
