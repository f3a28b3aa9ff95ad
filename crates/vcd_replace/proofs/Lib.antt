-- Worked cases of the folders of an output.
pub mod Names
