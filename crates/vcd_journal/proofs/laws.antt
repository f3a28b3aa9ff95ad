-- Lemmas of `laws`.
pub mod BoundedHistory
