-- Lemmas of `spi_line`.
pub mod DataLeft
