-- Lemmas of `compact_wave`.
pub mod PartsOfChanges
