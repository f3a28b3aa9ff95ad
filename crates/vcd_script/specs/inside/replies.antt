-- Definitions that `replies` and its proofs cite.
pub mod Answering
pub mod Reply
pub mod Listing
