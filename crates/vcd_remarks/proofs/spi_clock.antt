-- Lemmas of `spi_clock`.
pub mod ClockLeft
