-- Lemmas of `laws`.
pub mod AmendedRuns
pub mod EditedFiles
pub mod NamedVariables
