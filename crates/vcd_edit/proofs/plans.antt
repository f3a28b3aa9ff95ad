-- Lemmas of `plans`.
pub mod CutPieces
pub mod EffectOfRecord
pub mod Ranges
