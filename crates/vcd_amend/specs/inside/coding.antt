-- Definitions that `coding` and its proofs cite.
pub mod KeptSignals
pub mod ChangedWaves
pub mod Codes
