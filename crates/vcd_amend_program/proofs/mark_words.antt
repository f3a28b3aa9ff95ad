-- Lemmas of `mark_words`.
pub mod EscapedBytes
