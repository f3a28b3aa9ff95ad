use Rattle.vcd_decode.proofs.laws.sent.SpiWords.{words_found, partial_found}
use Rattle.vcd_decode.proofs.laws.spi_words_are_found.Goals as goal

pub returns-clause-words : goal.returns-clause-words
returns-clause-words c = words_found

pub returns-clause-partial : goal.returns-clause-partial
returns-clause-partial c = partial_found
