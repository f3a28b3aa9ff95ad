-- Definitions that `plans` and its proofs cite.
pub mod Plan
pub mod Ranges
pub mod RemainingChanges
pub mod Derive
pub mod Invert
