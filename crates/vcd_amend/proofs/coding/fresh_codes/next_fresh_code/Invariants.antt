use Rattle.std.proofs.Common.{◌≡◌}
use Rattle.vcd_text.specs.Grammar.{ParseState}
use Rattle.vcd_amend.specs.inside.coding.Codes.{KnowsCodes, fresh_before}
use Rattle.vcd_amend.proofs.coding.fresh_codes.next_fresh_code.Given as goal

abbrev pub invariant-loop-candidate : goal.invariant-loop-candidate
invariant-loop-candidate l = (s : ParseState) → KnowsCodes l.known s
    → fresh_before s l.candidate ≡ fresh_before s l.fn.position
