use Rattle.std.proofs.Common.{[], ◌∷◌, ap, ◌∙◌}
use Rattle.std.specs.List.{cons_option}
use Rattle.vcd_remarks.specs.declared.line_bits.LineBits.{LineBits}
use Rattle.vcd_remarks.specs.inside.ClockRuns.{line_change, changes_of_place, below_left}
use Rattle.vcd_remarks.specs.inside.FoundTicks.{finding_at}
use Rattle.vcd_remarks.specs.inside.SpiLine.{go_straight, are_lost, shows_lost, shows_straight, shows_no_setup}
use Rattle.vcd_remarks.specs.inside.SpiLine.{shows_after, shows_before, if_more}
use Rattle.vcd_remarks.proofs.clock_runs.ShortRuns.{same_short}
use Rattle.vcd_remarks.proofs.shared.FoundSoFar.{tick_taken}
use Rattle.vcd_remarks.proofs.spi_line.DataFinder.take.Goals as goal

pub returns : goal.returns
returns c = λ place is usual before same names more.
    let u = c.args.setup.now in
    let e = c.args.edge.now in
    let old = c.args.self.now in
    let straight = c.go_straight-straight.ensures ∙ ap (λ (l : LineBits). go_straight l.before l.at) is in
    let lost = tick_taken (shows_lost place) old.lost e more _ _
    (c.shows_lost-lost.ensures ∙ ap (λ l. are_lost l e) is) c.with_tick_if-self.ensures in
    let no_setup = tick_taken (λ d. shows_no_setup u (shows_straight place d) d) old.no_setup e more _ _
    (c.shows_no_setup-no_setup.ensures ∙ ap (λ b. shows_no_setup u b e) straight) c.with_tick_if-self-2.ensures in
    let after = tick_taken (λ d. shows_after u (shows_straight place d) d) old.after e more _ _
    (c.shows_after-after.ensures ∙ ap (λ b. shows_after u b e) straight) c.with_tick_if-self-3.ensures in
    let others = tick_taken (λ d. shows_before u (shows_straight place d) d) old.before e more _ _
    (c.shows_before-before.ensures ∙ ap (λ b. shows_before u b e) straight) c.with_tick_if-self-4.ensures in
    let short = same_short usual before _ _ same (λ k less. c.take.ensures (changes_of_place place more) k less
    ∙ ap (λ l. below_left old.runs (cons_option (line_change e.tick l) (changes_of_place place more)) k) is) in
    λ i. finding_at names.lost (lost i) ∷ finding_at names.short (short i)
    ∷ finding_at names.no_setup (no_setup i) ∷ finding_at names.late (if_more (after i) (others i)) ∷ []
