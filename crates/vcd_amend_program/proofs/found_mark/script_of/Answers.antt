-- One line of edits after another.
use Rattle.std.proofs.Common.{◌≡◌, ◌++◌, ◌∷◌, [], codes, ap, sym, ◌∙◌}
use Rattle.std.specs.List.{flat_map}
use Rattle.vcd_amend_program.specs.FoundMarks.{said_after}
use Rattle.vcd_amend_program.proofs.found_mark.LinesSaid.{script_more, script_whole}
use Rattle.vcd_amend_program.proofs.found_mark.script_of.Goals as goal

pub returns : goal.returns
returns c = script_whole c.args.mark.now c.loop-line.script.items c.loop-line.rest.now (codes "edit ")
    c.loop-line.invariant c.in_default.ensures

pub loop-line-preserved : goal.loop-line-preserved
loop-line-preserved c =
    let left = flat_map (λ l. l ++ 10 ∷ []) (said_after (codes "edit ") c.in-Some.following.now) in
    let grown : c.push.new.self.items ≡ (c.loop-line.script.items ++ c.in-Some.line.now) ++ 10 ∷ []
    = c.in_ok-push.ensures.items ∙ ap (λ l. l ++ 10 ∷ []) c.in_ok-extend_from_slice.ensures.items in
    script_more c.args.mark.now c.loop-line.script.items c.loop-line.rest.now c.in-Some.following.now
    c.in-Some.line.now (codes "edit ") c.loop-line.invariant c.in-Some.ensures.0
    ∙ ap (λ l. l ++ left) (sym grown)
