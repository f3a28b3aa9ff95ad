-- Definitions that `shared` and its proofs cite.
pub mod SkippedCount
