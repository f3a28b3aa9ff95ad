-- Lemmas: files cut into pieces.
pub mod Bytes
pub mod Cuts
pub mod OneCut
