-- Definitions that only contracts of private functions and proofs cite. A reader need not believe
-- them.
pub mod Jobs
pub mod Comparisons
