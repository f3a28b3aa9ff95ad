-- Lemmas of `wave/splicing`.
pub mod MovedChanges
