-- Lemmas of `choice`.
pub mod NotedVariables
