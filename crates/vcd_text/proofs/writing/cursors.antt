-- Lemmas of `writing/cursors`.
pub mod NextChange
