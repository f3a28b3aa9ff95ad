-- Lemmas of `edges`.
pub mod EdgesInTurn
