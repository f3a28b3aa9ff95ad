-- Lemmas of `laws`.
pub mod SamplesOfWords
