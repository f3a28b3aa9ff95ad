-- Lemmas of `replies`.
pub mod PrintedSignals
