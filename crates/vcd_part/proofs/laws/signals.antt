-- Lemmas: the variables of one code, and the values of their signals.
pub mod SameStatus
pub mod SignalValues
