-- Definitions that `fitting` and its proofs cite.
pub mod Adjacency
pub mod FittingTests
