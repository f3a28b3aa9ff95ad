use Rattle.vcd_text.proofs.part.WholeParts.{part_of_part, whole_is}
use Rattle.std.proofs.Common.{refl}
use Rattle.vcd_text.proofs.laws.parts_agree.Goals as goal

pub returns-clause-part_of_part : goal.returns-clause-part_of_part
returns-clause-part_of_part c = part_of_part

pub returns-clause-all : goal.returns-clause-all
returns-clause-all c = λ ticks d sound first last. whole_is _ ticks d (λ s. refl) first last sound
