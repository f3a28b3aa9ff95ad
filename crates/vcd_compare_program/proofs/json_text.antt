-- Lemmas of `json_text`.
pub mod Pieces
