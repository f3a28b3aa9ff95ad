use Rattle.vcd_core.specs.Devices.{device_end}
use Rattle.vcd_compare.proofs.comparing.Started.{starts, read_whole, answers_error, answers}
use Rattle.vcd_compare.proofs.comparing.compare.Goals as goal

pub returns-in_err-side-clause-answer : goal.returns-in_err-side-clause-answer
returns-in_err-side-clause-answer g c =
    answers_error c.args.request.now
    (device_end g.A.Source.coming g.A.Source.has_failed c.args.first.now c.open.new.first)
    (device_end g.B.Source.coming g.B.Source.has_failed c.args.second.now c.open.new.second) _ c.from_residual.result
    c.from_residual.ensures.1 c.in_err-side.ensures.fails

pub run-requires-clause-at : goal.run-requires-clause-at
run-requires-clause-at g c = (
  g.A.Source.coming c.args.first.now,
  g.B.Source.coming c.args.second.now,
  c.in_ok-side.ensures.first.state,
  c.in_ok-side.ensures.second.state,
  starts _ _ _ _ c.in_ok-side.side c.in_ok-side.other c.in_ok-prepared.start c.in_ok-side.ensures.first
      c.in_ok-side.ensures.second c.in_ok-prepared.ensures.first c.in_ok-prepared.ensures.second,
)

pub returns-in_err-run-clause-answer : goal.returns-in_err-run-clause-answer
returns-in_err-run-clause-answer g c =
    answers_error c.args.request.now
    (device_end g.A.Source.coming g.A.Source.has_failed c.args.first.now c.run.new.first)
    (device_end g.B.Source.coming g.B.Source.has_failed c.args.second.now c.run.new.second) _
    c.from_residual-in_err-run.result c.from_residual-in_err-run.ensures.1
    (c.in_err-run.ensures.fails (g.A.Source.coming c.args.first.now) (g.B.Source.coming c.args.second.now)
    c.in_ok-side.ensures.first.state c.in_ok-side.ensures.second.state
    (starts _ _ _ _ c.in_ok-side.side c.in_ok-side.other c.in_ok-prepared.start c.in_ok-side.ensures.first
    c.in_ok-side.ensures.second c.in_ok-prepared.ensures.first c.in_ok-prepared.ensures.second))

pub conclude-requires-clause-first_at : goal.conclude-requires-clause-first_at
conclude-requires-clause-first_at g c =
    let walked = c.in_ok-run.ensures.walked (g.A.Source.coming c.args.first.now) (g.B.Source.coming c.args.second.now)
    c.in_ok-side.ensures.first.state c.in_ok-side.ensures.second.state
    (starts _ _ _ _ c.in_ok-side.side c.in_ok-side.other c.in_ok-prepared.start c.in_ok-side.ensures.first
    c.in_ok-side.ensures.second c.in_ok-prepared.ensures.first c.in_ok-prepared.ensures.second) in
    (walked.state, walked.at)

pub conclude-requires-clause-second_at : goal.conclude-requires-clause-second_at
conclude-requires-clause-second_at g c =
    let walked = c.in_ok-run.ensures.walked (g.A.Source.coming c.args.first.now) (g.B.Source.coming c.args.second.now)
    c.in_ok-side.ensures.first.state c.in_ok-side.ensures.second.state
    (starts _ _ _ _ c.in_ok-side.side c.in_ok-side.other c.in_ok-prepared.start c.in_ok-side.ensures.first
    c.in_ok-side.ensures.second c.in_ok-prepared.ensures.first c.in_ok-prepared.ensures.second) in
    (walked.other_state, walked.other_at)

pub returns-clause-answer : goal.returns-clause-answer
returns-clause-answer g c =
    let first = c.in_ok-side.ensures.first in
    let second = c.in_ok-side.ensures.second in
    let walked = c.in_ok-run.ensures.walked (g.A.Source.coming c.args.first.now) (g.B.Source.coming c.args.second.now)
    first.state second.state
    (starts _ _ _ _ c.in_ok-side.side c.in_ok-side.other c.in_ok-prepared.start first second
    c.in_ok-prepared.ensures.first c.in_ok-prepared.ensures.second) in
    answers c.args.request.now _ _ c.in_ok-prepared.prepared c.run.new.self c.conclude.result c.conclude.ensures.told
    c.conclude.ensures.fails
    (read_whole c.args.request.now _ _ _ _ c.in_ok-side.side c.in_ok-side.other c.in_ok-prepared.prepared
    c.in_ok-prepared.start c.run.new.self c.most.result _ first second c.most.ensures
    (c.in_ok-prepared.ensures.prepared first.state second.state first.at.at second.at.at) walked)
