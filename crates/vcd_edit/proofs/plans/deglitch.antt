-- Lemmas of `plans/deglitch`.
pub mod RemainingChanges
