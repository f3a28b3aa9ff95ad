-- Lemmas of `hollow_reading`.
pub mod HollowSignals
