-- Worked cases.
pub mod EditFindings
pub mod DecoderFindings
pub mod NameRemarks
