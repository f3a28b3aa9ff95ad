-- Definitions that `wave` and its proofs cite.
pub mod List
