-- Lemmas of `planes`.
pub mod WrittenBits
