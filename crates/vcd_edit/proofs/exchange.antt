-- Lemmas of `exchange`.
pub mod ExchangedPieces
pub mod ExchangedRecords
pub mod PiecesInTurn
