use Rattle.std.proofs.Common.{subst, List}
use Rattle.std.proofs.lemmas.Result.{on_ok_weaker}
use Rattle.vcd_text.specs.EmittedText.{Emits}
use Rattle.vcd_copy.specs.Copied.{copied_pieces}
use Rattle.vcd_amend.specs.RetimedCopy.{is_cut_by}
use Rattle.vcd_amend.specs.declared.cut_ticks.CutTicks.{CutTicks}
use Rattle.vcd_amend.specs.inside.amending.CutAmender.{rules_of, sent_for, step_for}
use Rattle.vcd_amend.proofs.amending.CutSteps.{with_walk}
use Rattle.vcd_amend.proofs.amending.cut_amender.CutAmender.take_stamp.Goals as goal

pub returns-clause-written : goal.returns-clause-written
returns-clause-written g c = on_ok_weaker c.take_retimed.result (λ all. λ before p digits at is number space body later.
    let old = c.args.self.now in
    let same = c.retimed-retimed.ensures.same in
    subst (λ (cs : List CutTicks). Emits g.W.Sink c.args.output.now c.take_retimed.new.output
    (copied_pieces (rules_of old.inner) (sent_for (is_cut_by cs) before) (step_for (is_cut_by cs) before p))) same
    (all before p digits (with_walk old before c.retimed-retimed.new.self same at) is number space body later))
    c.take_retimed.ensures.written

pub returns-clause-at : goal.returns-clause-at
returns-clause-at g c = on_ok_weaker c.take_retimed.result (λ all. λ before p digits at is number space body later.
    all before p digits (with_walk c.args.self.now before c.retimed-retimed.new.self c.retimed-retimed.ensures.same at)
    is number space body later)
    c.take_retimed.ensures.at
