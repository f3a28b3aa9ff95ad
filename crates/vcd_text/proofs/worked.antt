-- Worked cases.
pub mod HeardVariables
