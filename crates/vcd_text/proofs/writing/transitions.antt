-- Lemmas of `writing/transitions`.
pub mod ItemsOfTicks
