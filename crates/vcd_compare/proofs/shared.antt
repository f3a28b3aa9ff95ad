-- What proofs of several modules need.
pub mod FoundDifferences
pub mod HeardParts
pub mod Tolerance
pub mod Windows
pub mod Steps
pub mod ShortestRuns
pub mod Ranges
