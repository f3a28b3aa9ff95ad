-- The definitions of copies, pieces and marks.
pub mod Pieces
pub mod Ticks
pub mod CutLaws
pub mod Copied
pub mod EndedItems
pub mod VariableWords
pub mod CopyEnds
pub mod Marks
pub mod MarkText
pub mod inside
