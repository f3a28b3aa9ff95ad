-- Definitions that only contracts of private functions and proofs cite. A reader need not believe
-- them.
pub mod CutTicks
pub mod declarations
pub mod coding
pub mod amending
pub mod LastChange
