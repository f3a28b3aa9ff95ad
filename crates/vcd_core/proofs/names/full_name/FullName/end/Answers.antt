use Rattle.std.proofs.Common.{ap, sym, ◌∙◌}
use Rattle.vcd_core.specs.declared.names.text_end.TextEnd.{TextEnd}
use Rattle.vcd_core.specs.FullName.{name_bytes}
use Rattle.vcd_core.specs.inside.names.TextEnd.{end_after}
use Rattle.vcd_core.proofs.names.full_name.FullName.end.Goals as goal

pub loop-byte-init : goal.loop-byte-init
unfolding end_after
loop-byte-init c = ap (λ (end : TextEnd). end_after end (name_bytes c.args.self)) c.new-end.ensures

pub loop-byte-preserved : goal.loop-byte-preserved
unfolding end_after
loop-byte-preserved c =
    ap (λ (end : TextEnd). end_after end (name_bytes c.next_byte.new.self)) c.with_byte-end.ensures
    ∙ ap (end_after c.loop-byte.end) (sym c.in-Some.ensures.next) ∙ c.loop-byte.invariant

pub returns : goal.returns
unfolding end_after
returns c = ap (end_after c.loop-byte.end) (sym c.in_default.ensures.next) ∙ c.loop-byte.invariant
