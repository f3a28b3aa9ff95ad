-- Lemmas of `edge_maker`.
pub mod ChangesInTurn
