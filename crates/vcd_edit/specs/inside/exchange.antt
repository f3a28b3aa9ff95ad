-- Definitions that `exchange` and its proofs cite.
pub mod Pieces
pub mod Trimming
pub mod Opposites
