-- Definitions that `names` and its proofs cite.
pub mod FullName
pub mod ScopePath
pub mod TextEnd
