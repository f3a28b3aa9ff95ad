-- Lemmas of `code_uses`.
pub mod LastingCodes
pub mod LastChanges
pub mod FirstPieces
