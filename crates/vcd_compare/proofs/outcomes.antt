-- Lemmas of `outcomes`.
pub mod Told
pub mod Marks
