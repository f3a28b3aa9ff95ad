-- Definitions that only contracts of private functions and proofs cite. A reader need not believe
-- them.
pub mod Planes
pub mod EdgeWalk
pub mod HeaderWords
pub mod names
pub mod wave
pub mod value
