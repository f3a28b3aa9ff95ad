-- Lemmas of `narrow_value`.
pub mod Blocks
