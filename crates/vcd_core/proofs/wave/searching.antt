-- Lemmas of `wave/searching`.
pub mod ChangesUpToTick
