-- Lemmas of `left_out`.
pub mod Counted
pub mod HeardOrder
pub mod Replaced
