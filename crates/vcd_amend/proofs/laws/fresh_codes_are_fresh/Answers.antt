use Rattle.vcd_amend.proofs.given_codes.FreshCodes as lemmas
use Rattle.vcd_amend.proofs.laws.fresh_codes_are_fresh.Goals as goal

pub returns-clause-fresh : goal.returns-clause-fresh
returns-clause-fresh c = lemmas.fresh_codes_are_fresh

pub returns-clause-in_order : goal.returns-clause-in_order
returns-clause-in_order c = lemmas.fresh_codes_are_in_order
