-- Lemmas of `pairing`.
pub mod Positions
pub mod Maps
pub mod Walks
