-- Lemmas of `reading/change_stream`.
pub mod ItemsSoFar
pub mod StreamedFile
