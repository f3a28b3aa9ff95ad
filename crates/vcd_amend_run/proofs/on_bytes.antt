-- Lemmas of `on_bytes`.
pub mod ResultOfRun
pub mod EditedFile
