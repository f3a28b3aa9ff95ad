-- Lemmas of `bus_finder`.
pub mod BusLeft
