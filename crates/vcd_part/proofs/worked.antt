-- Worked cases.
pub mod CommentsAndScopes
pub mod EmptyStamps
pub mod LeftOutEvents
pub mod StillShown
pub mod WrongParts
