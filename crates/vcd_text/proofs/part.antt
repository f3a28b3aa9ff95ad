-- Lemmas: part.
pub mod FewSignals
pub mod LateChanges
pub mod PartMeanings
pub mod WholeParts
