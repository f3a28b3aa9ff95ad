-- Lemmas of `header_words`.
pub mod TextOfWords
