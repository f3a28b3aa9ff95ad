use Rattle.vcd_remarks.proofs.laws.SamplesOfWords.{samples_of_words}
use Rattle.vcd_remarks.proofs.laws.spi_samples_are_of_words.Goals as goal

pub returns : goal.returns
returns c = samples_of_words
