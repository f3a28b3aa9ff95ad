-- The definitions of what the programs share.
pub mod Opening
pub mod Options
pub mod Report
pub mod Shown
pub mod WithoutRun
pub mod Endings
