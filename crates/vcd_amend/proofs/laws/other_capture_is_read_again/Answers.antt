use Rattle.vcd_amend.proofs.given_codes.Gives.{coded_amendment_gives}
use Rattle.vcd_amend.proofs.given_codes.Fits.{given_codes_fit}
use Rattle.vcd_amend.proofs.laws.other_capture_is_read_again.Goals as goal

pub returns-clause-coded : goal.returns-clause-coded
returns-clause-coded c = coded_amendment_gives

pub returns-clause-fits : goal.returns-clause-fits
returns-clause-fits c = given_codes_fit
