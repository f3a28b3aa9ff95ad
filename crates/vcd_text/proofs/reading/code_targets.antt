-- Lemmas of `reading/code_targets`.
pub mod Targets
pub mod ShortCodes
