-- Definitions that `dry_running` and its proofs cite.
pub mod HeardLines
pub mod HistoryNotes
pub mod LinePlan
pub mod OriginHistory
