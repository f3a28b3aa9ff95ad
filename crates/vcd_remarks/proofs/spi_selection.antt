-- Lemmas of `spi_selection`.
pub mod SelectionLeft
