-- Lemmas of `ended_items`.
pub mod Shown
