-- Lemmas of `dry_running`.
pub mod Marks
pub mod LinesLeft
pub mod StateOfHistory
pub mod ReadSignals
pub mod PlannedInHistory
pub mod FoundInLines
pub mod EditLines
