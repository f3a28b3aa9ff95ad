-- What proofs of several modules need.
pub mod StampItems
pub mod SettledPieces
pub mod PutPieces
