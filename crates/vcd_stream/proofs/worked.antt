-- Worked cases.
pub mod SignalEdits
