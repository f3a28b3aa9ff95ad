-- The marks that are left to make.
use Rattle.std.proofs.Common.{◌≡◌, drop}
use Rattle.vcd_compare.specs.inside.Outcomes.{all_marked}
use Rattle.vcd_compare.proofs.outcomes.mark_all.Given as goal

abbrev pub invariant-loop-partner : goal.invariant-loop-partner
invariant-loop-partner l = all_marked l.marks (drop l.partner-index l.partners) ≡ all_marked l.initial.marks l.partners
