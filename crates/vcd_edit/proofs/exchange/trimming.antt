-- Lemmas of `exchange/trimming`.
pub mod TrimmedPieces
