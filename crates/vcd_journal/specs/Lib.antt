-- The definitions of vcd_journal: the history of a capture, and the machine that it stands for.
pub mod StepErrorNames
pub mod History
pub mod Machine
pub mod HistoryMachine
pub mod Laws
pub mod ReachedCaptures
pub mod inside
