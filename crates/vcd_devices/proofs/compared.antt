-- Lemmas of `compared`.
pub mod ShownBytes
pub mod SameBytes
