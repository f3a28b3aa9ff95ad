-- Lemmas of `skipped_names`.
pub mod Hashes
