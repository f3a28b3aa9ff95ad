-- Lemmas of several rooms.
pub mod Enumerated
