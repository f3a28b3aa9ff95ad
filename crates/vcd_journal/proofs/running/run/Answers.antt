use Rattle.std.proofs.Common.{◌≡◌, ◌+◌, ◌++◌, ◌∷◌, [], ◌∙◌, List, ap, sym, take, arith}
use Rattle.std.proofs.lemmas.List.{append-nil, append_assoc, take_more}
use Rattle.vcd_journal.specs.declared.step.Step.{Step}
use Rattle.vcd_journal.specs.declared.step.Answer.{Answer}
use Rattle.vcd_journal.proofs.shared.Steps.{steps_lead_more, no_steps}
use Rattle.vcd_journal.proofs.running.run.Goals as goal

pub loop-step-init : goal.loop-step-init
loop-step-init c = (([], sym (append-nil c.args.answers.now.items), no_steps c.args.session.now), omega arith)

pub loop-step-preserved : goal.loop-step-preserved
loop-step-preserved c =
    let l = c.loop-step in
    let so = l.invariant.0 in
    let answer = c.answer_to.result in
    let asked : take (l.step-index + 1) c.args.steps.now ≡ take l.step-index c.args.steps.now
    ++ c.step-item.result ∷ [] =
    take_more c.args.steps.now l.step-index c.step-item.result c.loop-step-test.true
    ∙ ap (λ (s : Step). take l.step-index c.args.steps.now ++ s ∷ []) (sym c.step-item.is) in (
      (
        so.0 ++ answer ∷ [],
        c.push_reserved.ensures.items ∙ ap (λ (xs : List Answer). xs ++ answer ∷ []) so.1
            ∙ append_assoc c.args.answers.now.items so.0 (answer ∷ []),
        rw asked (steps_lead_more c.args.session.now (take l.step-index c.args.steps.now) so.0 l.session
            c.step-item.result answer _ so.2 c.answer_to.ensures),
      ),
      omega (arith, l.invariant.1, c.push_reserved.ensures.len, c.push_reserved.ensures.capacity),
    )
