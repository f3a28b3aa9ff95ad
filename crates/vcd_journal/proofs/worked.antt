-- Lemmas: worked.
pub mod History
