-- Definitions that `remarks` and its proofs cite.
pub mod Parts
