-- Definitions that only contracts of private functions and proofs cite. A reader need not believe
-- them.
pub mod reading
pub mod Words
pub mod shared
pub mod writing
