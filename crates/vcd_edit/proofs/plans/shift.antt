-- Lemmas of `plans/shift`.
pub mod ShiftPieces
