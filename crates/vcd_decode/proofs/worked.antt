-- Lemmas: worked.
pub mod I2c
pub mod Spi
pub mod Uart
