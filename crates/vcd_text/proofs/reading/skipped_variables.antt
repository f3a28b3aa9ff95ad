-- Lemmas of `reading/skipped_variables`.
pub mod Listed
