-- Lemmas of `reading/change_listener`.
pub mod HeardCodes
pub mod HeardDeclarations
pub mod HeardItems
pub mod HeardWords
