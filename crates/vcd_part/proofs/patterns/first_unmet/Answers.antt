-- The first pattern that is not met.
use Rattle.std.proofs.Common.{◌∙◌, ap, sym, not, List, [], ℕ, Bor}
use Rattle.std.specs.List.{list_any}
use Rattle.vcd_part.specs.Pattern.{meets}
use Rattle.vcd_part.proofs.patterns.MetInTurn.{next_fails, first_passes, none_passes, noted_at}
use Rattle.vcd_part.proofs.patterns.first_unmet.Goals as goal

pub returns-then-not-is_met : goal.returns-then-not-is_met
returns-then-not-is_met c = λ names met.
    first_passes (λ p. p.now) (λ p. not (list_any (meets p) names)) c.args.patterns.now c.loop-index.index _
    c.loop-index-test.true (c.loop-index.invariant names met)
    (ap not (sym (noted_at (λ p. p.now) (λ p. list_any (meets p) names) c.args.patterns.now c.args.met.now
    c.loop-index.index _ c.loop-index-test.true met) ∙ sym c.if-not-is_met.ensures))

pub loop-index-preserved : goal.loop-index-preserved
loop-index-preserved c = λ names met.
    let nothing : Bor (List ℕ) = record { ref_ptr = (0, 0); now = [] } in
    sym (next_fails (λ p. p.now) (λ p. not (list_any (meets p) names)) c.args.patterns.now c.loop-index.index nothing
    c.loop-index-test.true
    (ap not (sym (noted_at (λ p. p.now) (λ p. list_any (meets p) names) c.args.patterns.now c.args.met.now
    c.loop-index.index nothing c.loop-index-test.true met) ∙ sym c.if-not-is_met.ensures)))
    ∙ c.loop-index.invariant names met

pub returns : goal.returns
returns c = λ names met.
    none_passes (λ p. p.now) (λ p. not (list_any (meets p) names)) c.args.patterns.now c.loop-index.index
    c.loop-index-test.false (c.loop-index.invariant names met)
