-- Lemmas of `session`.
pub mod RecordsOfHistory
