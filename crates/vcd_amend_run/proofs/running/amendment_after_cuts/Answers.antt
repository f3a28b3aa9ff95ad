-- The first capture after the cuts is one from which the last one comes.
use Rattle.std.proofs.Common.{sym, subst, length}
use Rattle.vcd_core.specs.CaptureContents.{contents}
use Rattle.vcd_core.specs.Contents.{Contents}
use Rattle.vcd_core.specs.SignalOrigins.{RiseWithin, ComeFrom}
use Rattle.vcd_amend.specs.DeclaredVariables.{declarations_of, HaveSizesOf}
use Rattle.vcd_amend_run.proofs.running.CutsInForce.{sizes_after_cuts, later_after_cuts}
use Rattle.vcd_amend_run.proofs.running.amendment_after_cuts.Goals as goal

pub amendment_for-requires-clause-sizes : goal.amendment_for-requires-clause-sizes
amendment_for-requires-clause-sizes c =
    subst (λ (d : Contents). HaveSizesOf d.signals (declarations_of c.args.declared.now)) (sym c.in_ok-first.ensures)
    (sizes_after_cuts (declarations_of c.args.declared.now) (contents c.args.first) c.args.cuts.now c.requires.sizes)

pub amendment_for-requires-clause-rising : goal.amendment_for-requires-clause-rising
amendment_for-requires-clause-rising c =
    let later = c.args.later.now in
    subst (λ (d : Contents). RiseWithin 0 (length d.signals) later.origins.now) (sym c.in_ok-first.ensures)
    (later_after_cuts (contents c.args.first) c.args.cuts.now later.origins.now later.session.now.now
    c.requires.come).rising

pub amendment_for-requires-clause-come : goal.amendment_for-requires-clause-come
amendment_for-requires-clause-come c =
    let later = c.args.later.now in
    subst (λ (last : Contents). ComeFrom (contents c.in_ok-first.first) later.origins.now last.signals)
    (sym c.capture-last.ensures.now)
    (subst (λ (d : Contents). ComeFrom d later.origins.now later.session.now.now.signals) (sym c.in_ok-first.ensures)
    (later_after_cuts (contents c.args.first) c.args.cuts.now later.origins.now later.session.now.now
    c.requires.come).come)
