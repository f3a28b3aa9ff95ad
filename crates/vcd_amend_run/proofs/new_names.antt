-- Lemmas of `new_names`.
pub mod Outlines
