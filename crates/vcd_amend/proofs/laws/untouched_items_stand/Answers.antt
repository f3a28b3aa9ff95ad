use Rattle.vcd_amend.proofs.what_stands.Whole as lemmas
use Rattle.vcd_amend.proofs.laws.untouched_items_stand.Goals as goal

pub returns : goal.returns
returns c = lemmas.untouched_items_stand
