-- Lemmas: worked.
pub mod Effects
pub mod Records
