-- Lemmas of `found_mark`.
pub mod LinesSaid
