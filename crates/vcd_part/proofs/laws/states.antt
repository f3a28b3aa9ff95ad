-- Lemmas: the state of the part beside that of the file.
pub mod Windows
pub mod StatesInTurn
pub mod PartStates
pub mod PartChanges
pub mod FirstPieces
pub mod PartStamps
pub mod PartBody
pub mod CommentWords
pub mod PartDeclarations
pub mod PartIsAccepted
