-- Lemmas of `copying`.
pub mod Ends
