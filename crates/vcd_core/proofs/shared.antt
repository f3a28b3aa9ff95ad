-- Lemmas: shared.
pub mod FullNames
pub mod LettersOfPlanes
pub mod Outlines
pub mod Pushes
pub mod Splices
pub mod TicksInARow
pub mod Waves
