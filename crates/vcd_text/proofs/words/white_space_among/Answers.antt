use Rattle.vcd_text.proofs.words.SpaceMasks.{white_space_mask}
use Rattle.vcd_text.proofs.words.white_space_among.Goals as goal

pub returns : goal.returns
returns c = white_space_mask c.args.bytes c.fits-bytes.0
