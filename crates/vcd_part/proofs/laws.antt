-- Lemmas of `laws`.
pub mod EmptyStamps
pub mod signals
pub mod states
pub mod text
pub mod standing
pub mod PartMeaning
pub mod PartIsMeant
pub mod PartOfFile
