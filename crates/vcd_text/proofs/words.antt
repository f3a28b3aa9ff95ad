-- Lemmas of `words`.
pub mod SpaceMasks
