-- Lemmas: shared.
pub mod Steps
pub mod Replay
