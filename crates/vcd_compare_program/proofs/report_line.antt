-- Lemmas of `report_line`.
pub mod Sameness
