-- Lemmas of `summed`.
pub mod EightBytes
pub mod Worked
