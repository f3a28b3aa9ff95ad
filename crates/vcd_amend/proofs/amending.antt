-- Lemmas: writing the amended file.
pub mod LastChange
pub mod UsedCodes
pub mod InPlace
pub mod DueOrder
pub mod StampedItems
pub mod DueText
pub mod Stamps
pub mod Values
pub mod SeenItems
pub mod AnyLimit
pub mod HeldPieces
pub mod CutPieces
pub mod CutSteps
pub mod CutTexts
