-- One text after another.
use Rattle.std.proofs.Common.{◌++◌, map, ap, sym, ◌∙◌}
use Rattle.vcd_amend_program.specs.FoundMarks.{said_after}
use Rattle.vcd_amend_program.proofs.found_mark.LinesSaid.{texts_more, texts_whole}
use Rattle.vcd_amend_program.proofs.found_mark.texts_after.Goals as goal

pub returns-clause-texts : goal.returns-clause-texts
returns-clause-texts c = texts_whole _ _ c.loop-line.texts.items c.loop-line.invariant c.in_default.ensures

pub loop-line-preserved : goal.loop-line-preserved
loop-line-preserved c =
    texts_more (said_after c.args.first.now c.args.mark.now) c.loop-line.texts.items c.in_ok-text.text
    c.in-Some.line.now _ _ c.loop-line.invariant c.in-Some.ensures.0 c.in_ok-text.ensures.text
    ∙ ap (λ l. map (λ t. t.now) l ++ said_after c.args.first.now c.in-Some.following.now) (sym c.in-Ok.ensures.items)
