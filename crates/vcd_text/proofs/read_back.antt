-- Lemmas: read back.
pub mod Decimals
pub mod Changes
pub mod Declarations
pub mod WholeText
pub mod Words
