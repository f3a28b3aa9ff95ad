-- The definitions of the devices.
pub mod Sums
pub mod OutputFaults
pub mod Compared
