-- Lemmas of `decimal`.
pub mod DigitsInTurn
