-- Lemmas about streamed lines.
pub mod OneBitLines
pub mod LineOrigins
pub mod Plans
