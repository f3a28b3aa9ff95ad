-- Lemmas about devices.
pub mod shared
