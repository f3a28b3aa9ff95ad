use Rattle.vcd_text.proofs.shared.FailedResults.{err_is}
use Rattle.vcd_compare.proofs.walk.Reached.{walk_starts}
use Rattle.vcd_compare.proofs.walk.Walk.run.Goals as goal

pub loop-self-init : goal.loop-self-init
loop-self-init g c = record {
  first_ready = c.requires.first_ready;
  second_ready = c.requires.second_ready;
  at = λ coming other s t start. walk_starts c.args.most coming other _ _ s t c.args.self.now start;
}

pub take_changes-requires-clause-first_at : goal.take_changes-requires-clause-first_at
take_changes-requires-clause-first_at g c =
    let (coming, other, s, t, start) = c.requires.at in
    let at = c.loop-self.invariant.at coming other s t start in
    (at.first.on.later, at.first.on.at.at)

pub take_changes-requires-clause-second_at : goal.take_changes-requires-clause-second_at
take_changes-requires-clause-second_at g c =
    let (coming, other, s, t, start) = c.requires.at in
    let at = c.loop-self.invariant.at coming other s t start in
    (at.second.on.later, at.second.on.at.at)

pub reach_changes-requires-clause-at : goal.reach_changes-requires-clause-at
reach_changes-requires-clause-at g c =
    let (coming, other, s, t, start) = c.requires.at in (
      coming,
      other,
      s,
      t,
      c.args.self.now,
      c.args.most,
      c.in_ok-take_changes.ensures.at coming other _ _ s t c.args.self.now
          (c.loop-self.invariant.at coming other s t start),
    )

pub loop-self-preserved : goal.loop-self-preserved
loop-self-preserved g c = record {
  first_ready = c.in_ok-reach_changes.ensures.first_not_failed;
  second_ready = c.in_ok-reach_changes.ensures.second_not_failed;
  at = λ coming other s t start. c.in_ok-reach_changes.ensures.at c.args.most coming other s t c.args.self.now
      (c.in_ok-take_changes.ensures.at coming other _ _ s t c.args.self.now
      (c.loop-self.invariant.at coming other s t start));
}

pub returns-in_err-reach_changes-clause-fails : goal.returns-in_err-reach_changes-clause-fails
returns-in_err-reach_changes-clause-fails g c = rw (err_is _ c.from_residual-in_err-reach_changes.ensures.1)
    (λ coming other s t start. c.in_err-reach_changes.ensures.fails c.args.most coming other s t c.args.self.now
    (c.in_ok-take_changes.ensures.at coming other _ _ s t c.args.self.now
    (c.loop-self.invariant.at coming other s t start)))

pub read_rests-requires-clause-at : goal.read_rests-requires-clause-at
read_rests-requires-clause-at g c =
    let (coming, other, s, t, start) = c.requires.at in (
      coming,
      other,
      s,
      t,
      c.args.self.now,
      c.args.most,
      c.in_ok-take_changes.ensures.at coming other _ _ s t c.args.self.now
          (c.loop-self.invariant.at coming other s t start),
    )

pub returns-in_err-read_rests-clause-fails : goal.returns-in_err-read_rests-clause-fails
returns-in_err-read_rests-clause-fails g c = rw (err_is _ c.from_residual-in_err-read_rests.ensures.1)
    (λ coming other s t start. c.in_err-read_rests.ensures.fails c.args.most coming other s t c.args.self.now
    (c.in_ok-take_changes.ensures.at coming other _ _ s t c.args.self.now
    (c.loop-self.invariant.at coming other s t start)))

pub returns-clause-walked : goal.returns-clause-walked
returns-clause-walked g c coming other s t start =
    c.in_ok-read_rests.ensures.walked coming other s t c.args.self.now c.args.most c.last.result
    (c.in_ok-take_changes.ensures.at coming other _ _ s t c.args.self.now
    (c.loop-self.invariant.at coming other s t start))
    (c.in_ok-take_changes.ensures.over c.if-branch.false) c.last.ensures
