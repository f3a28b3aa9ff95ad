-- Lemmas of `names/text_end`.
pub mod EndsOfTexts
