use Rattle.vcd_remarks.proofs.remarks.AllRuns.{value_runs_are_all}
use Rattle.vcd_remarks.proofs.remarks.PulsesTakenOut.{pulses_are_taken_out}
use Rattle.vcd_remarks.proofs.remarks.DelaysAtTicks.{delays_are_all}
use Rattle.vcd_remarks.proofs.laws.remarks_are_true.Goals as goal

pub returns-clause-runs : goal.returns-clause-runs
returns-clause-runs c = value_runs_are_all

pub returns-clause-pulses : goal.returns-clause-pulses
returns-clause-pulses c =
    pulses_are_taken_out c.deglitch_takes_short_runs_out.ensures.long_stay
    c.deglitch_takes_short_runs_out.ensures.short_filled

pub returns-clause-edges : goal.returns-clause-edges
returns-clause-edges c =
    delays_are_all (pulses_are_taken_out c.deglitch_takes_short_runs_out.ensures.long_stay
    c.deglitch_takes_short_runs_out.ensures.short_filled)
