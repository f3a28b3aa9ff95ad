-- Definitions of `declarations`.
pub mod Collector
