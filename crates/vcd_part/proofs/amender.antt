-- Lemmas of `amender`.
pub mod States
pub mod LastChanges
pub mod Steps
pub mod Decided
pub mod ChangeItems
pub mod Written
pub mod Ended
pub mod NextVariable
pub mod Waiting
pub mod Comments
pub mod StampPieces
