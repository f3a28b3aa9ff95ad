-- Definitions that `script` and its proofs cite.
pub mod Line
pub mod Decoders
pub mod Splitting
