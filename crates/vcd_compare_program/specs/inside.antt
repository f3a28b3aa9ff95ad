-- Definitions for the proofs.
pub mod Facts
pub mod Reports
pub mod Words
