-- Lemmas of `reading/variables`.
pub mod ChangedVariable
pub mod DeclaredVariable
pub mod SignalsOfVariables
pub mod VariablesMatch
