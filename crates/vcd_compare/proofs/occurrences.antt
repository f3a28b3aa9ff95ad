-- Lemmas of `occurrences`.
pub mod LastPlaces
