-- Lemmas of `writing/window`.
pub mod WindowOrder
