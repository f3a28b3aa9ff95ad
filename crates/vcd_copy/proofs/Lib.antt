-- Lemmas about copies, pieces and marks.
pub mod pieces
pub mod shared
pub mod marks
