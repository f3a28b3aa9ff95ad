-- Lemmas of `capture_facts`.
pub mod DeclaredVariables
