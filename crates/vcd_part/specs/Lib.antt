-- The definitions of parts, from a pattern to how writing one ends.
pub mod Pattern
pub mod Times
pub mod Requests
pub mod PartPieces
pub mod WrittenPart
pub mod StandsInPart
pub mod PartLaws
pub mod PartOfFile
pub mod PartEnds
pub mod inside
