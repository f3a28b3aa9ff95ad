-- Lemmas of `shortest_word`.
pub mod Words
