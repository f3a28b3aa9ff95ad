use Rattle.std.proofs.Common.{Option, sym, ap, if◌then◌else◌, [], ◌∷◌, ◌∙◌, arith}
use Rattle.std.specs.List.{cons_option}
use Rattle.std.specs.Option.{option_map}
use Rattle.vcd_core.specs.declared.bit.Bit.{Bit}
use Rattle.vcd_core.specs.Wave.{change}
use Rattle.vcd_remarks.specs.inside.ClockRuns.{is_below_if, below_left}
use Rattle.vcd_remarks.specs.inside.RunsBelow.{at_power}
use Rattle.vcd_remarks.specs.inside.FoundTicks.{with_tick}
use Rattle.vcd_remarks.proofs.clock_runs.NotedRuns.{run_noted}
use Rattle.vcd_remarks.proofs.clock_runs.LevelRuns.take.Goals as goal

pub returns-in-Some : goal.returns-in-Some
returns-in-Some c = λ more power less.
    let old = c.args.self.now in
    let tick = c.args.tick in
    run_noted old tick c.in-Some.letter more power _
    (c.note_run_if.ensures power (omega (arith, less))
    ∙ ap (λ ticks. if is_below_if ticks power then with_tick (at_power old.below power) old.since
    else at_power old.below power) c.ended_ticks-ticks.ensures)
    ∙ ap (λ (o : Option Bit). below_left old (cons_option (option_map (λ b. change tick (b ∷ [])) o) more) power)
    (sym (sym c.new_letter.ensures ∙ c.in-Some.is))
