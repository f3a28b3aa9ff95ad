-- Lemmas of `pattern`.
pub mod Stars
