use Rattle.std.proofs.Common.{◌++◌, ◌∷◌, [], sym, ap, ◌∙◌}
use Rattle.std.proofs.lemmas.List.{append-nil}
use Rattle.std.proofs.lemmas.Result.{on_ok_weaker}
use Rattle.vcd_text.specs.inside.reading.CodeTargets.{code_target}
use Rattle.vcd_text.specs.declared.reading.heard_changes.ChangeTarget.TheVariants as targets
use Rattle.vcd_text.proofs.reading.change_listener.HeardCodes.{kept_word, unknown_heard, skipped_heard}
use Rattle.vcd_text.proofs.reading.change_listener.hear_real_or_string.Goals as goal

pub returns-in-Skipped : goal.returns-in-Skipped
returns-in-Skipped c = on_ok_weaker c.hear_skipped.result (λ is asked s at knows.
    let m = c.args.parser.now in
    is ∙ ap (λ hs. c.args.heard.now ++ hs) (skipped_heard m.variables m.part s at.seen c.args.code.now
    c.args.word.now at.variables c.args.firsts.now knows (sym c.get.ensures ∙ c.in-Skipped.is) _ (λ i. record {
      tick = at.tick i;
      target = targets.Skipped (code_target c.args.firsts.now c.args.code.now);
      text = c.args.word.now;
    } ∷ [])).1) c.hear_skipped.ensures

pub returns-in-Kept : goal.returns-in-Kept
returns-in-Kept c asked s at knows =
    let m = c.args.parser.now in
    sym (append-nil c.args.heard.now) ∙ ap (λ hs. c.args.heard.now ++ hs) (sym (kept_word m.variables m.part s at.seen
    c.args.code.now c.args.word.now at.variables _ _ (sym c.get.ensures ∙ c.in-Kept.is)))

pub returns-in-Undeclared : goal.returns-in-Undeclared
returns-in-Undeclared c asked s at knows =
    let m = c.args.parser.now in
    sym (append-nil c.args.heard.now) ∙ ap (λ hs. c.args.heard.now ++ hs) (sym (unknown_heard m.variables m.part s
    at.seen c.args.code.now c.args.word.now at.variables (sym c.get.ensures ∙ c.in-Undeclared.is)).1)
