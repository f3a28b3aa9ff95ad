-- Lemmas of `spi_finder`.
pub mod SpiLeft
pub mod FindingsInTurn
