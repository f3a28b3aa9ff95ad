-- Lemmas of `name_text`.
pub mod JoinedWords
