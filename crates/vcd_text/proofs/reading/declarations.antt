-- Lemmas of `reading/declarations`.
pub mod DeclarationWords
