-- Lemmas of `coding`.
pub mod ChangedWaves
pub mod KeptSignals
pub mod CodesInTurn
pub mod FatesByIndex
pub mod AmendmentForCapture
