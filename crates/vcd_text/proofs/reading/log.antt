-- Lemmas of `reading/log`.
pub mod MovedToWaves
