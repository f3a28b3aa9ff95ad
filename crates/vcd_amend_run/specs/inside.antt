-- Definitions that only contracts of private functions and proofs cite. A reader need not believe
-- them.
pub mod CaptureAfterCuts
pub mod HeardNames
pub mod HollowReading
pub mod NameHash
pub mod OutputRemarks
pub mod Running
pub mod dry_running
pub mod WithWaves
pub mod NewNames
pub mod StreamedLines
pub mod LinePass
pub mod FileLines
pub mod PassSteps
pub mod FedReplies
pub mod PlannedLines
pub mod PlannedLine
pub mod SkippedNames
