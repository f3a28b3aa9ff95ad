-- Lemmas about captures that lack changes.
pub mod shared
pub mod worked
