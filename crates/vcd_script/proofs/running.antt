-- Lemmas of `running`.
pub mod ResultOfRun
