-- Lemmas of `laws`.
pub mod ShortAndLongRuns
