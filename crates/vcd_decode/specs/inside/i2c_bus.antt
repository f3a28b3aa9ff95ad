-- Definitions that `i2c_bus` and its proofs cite.
pub mod BusWalk
pub mod Events
