-- Lemmas of `verify`.
pub mod WrittenBytes
pub mod AskedByMarks
