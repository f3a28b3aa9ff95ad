-- Lemmas about findings.
pub mod TicksInTurn
