-- Lemmas of `walk`.
pub mod Scaled
pub mod GivenChanges
pub mod Failures
pub mod OneSize
pub mod Planned
pub mod Taken
pub mod Reached
pub mod Walked
