-- Lemmas of `reading/changes`.
pub mod ChangeWords
