-- Lemmas about remarks.
pub mod worked
pub mod shared
