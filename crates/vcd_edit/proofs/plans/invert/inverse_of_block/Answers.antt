use Rattle.vcd_edit.proofs.plans.invert.InversePiece.{inverse_block_letters}
use Rattle.vcd_edit.proofs.plans.invert.inverse_of_block.Goals as goal

pub returns : goal.returns
returns c = λ width most.
    inverse_block_letters width c.args.block c.inverse_block.result most c.inverse_block.ensures
