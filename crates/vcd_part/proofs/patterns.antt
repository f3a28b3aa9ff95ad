-- Lemmas of `patterns`.
pub mod MetInTurn
