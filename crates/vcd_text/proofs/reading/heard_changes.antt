-- Lemmas of `reading/heard_changes`.
pub mod Places
