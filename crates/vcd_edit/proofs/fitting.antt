-- Lemmas of `fitting`.
pub mod FittingPieces
pub mod FittingRecords
