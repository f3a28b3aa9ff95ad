-- Lemmas of `part`.
pub mod SameItems
pub mod CopiedPieces
pub mod CopiedParts
pub mod Outcomes
