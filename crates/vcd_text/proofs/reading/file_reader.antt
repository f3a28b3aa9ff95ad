-- Lemmas of `reading/file_reader`.
pub mod PrefixResults
