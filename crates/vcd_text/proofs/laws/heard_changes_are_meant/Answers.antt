use Rattle.vcd_text.proofs.shared.HeardMeaning.{heard_give_values, heard_rise, heard_fit, declarations_stay}
use Rattle.vcd_text.proofs.laws.heard_changes_are_meant.Goals as goal

pub returns-clause-values : goal.returns-clause-values
returns-clause-values c = heard_give_values

pub returns-clause-rise : goal.returns-clause-rise
returns-clause-rise c = heard_rise

pub returns-clause-fit : goal.returns-clause-fit
returns-clause-fit c = heard_fit

pub returns-clause-stay : goal.returns-clause-stay
returns-clause-stay c = declarations_stay
