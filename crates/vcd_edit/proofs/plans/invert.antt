-- Lemmas of `plans/invert`.
pub mod InversePiece
