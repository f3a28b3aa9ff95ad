-- Lemmas of `variable_facts`.
pub mod NameCounts
pub mod ShownVariables
