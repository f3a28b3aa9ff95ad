-- The definitions of how a file is replaced.
pub mod Names
pub mod Errors
