-- Lemmas of `names`.
pub mod Texts
