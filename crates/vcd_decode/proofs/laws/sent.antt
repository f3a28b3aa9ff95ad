-- Lemmas: sent.
pub mod I2c
pub mod Levels
pub mod SpiSamples
pub mod SpiWords
pub mod Uart
