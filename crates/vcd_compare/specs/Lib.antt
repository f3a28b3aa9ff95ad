-- The definitions of comparisons, from a difference of two waves to the laws.
pub mod Differences
pub mod ShortestRun
pub mod Laws
pub mod VariableDifferences
pub mod Variables
pub mod LeftOut
pub mod Pairs
pub mod Captures
pub mod Comparisons
pub mod inside
