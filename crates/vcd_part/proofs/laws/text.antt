-- Lemmas: the bytes of the part.
pub mod PiecesOfPart
pub mod TextOfPart
