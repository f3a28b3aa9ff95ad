-- Lemmas of `bus_findings`.
pub mod EventsWalked
