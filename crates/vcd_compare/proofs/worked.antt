-- Worked cases.
pub mod Captures
pub mod Differences
pub mod LeftOut
pub mod ShortestRun
pub mod Variables
