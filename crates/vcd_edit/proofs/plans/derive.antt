-- Lemmas of `plans/derive`.
pub mod DerivedSignal
