-- Intermediate definitions, cited only by proofs and by contracts of private functions. A reader
-- need not believe them.
pub mod Heads
pub mod Patterns
pub mod ScopePaths
pub mod Choice
pub mod FirstValues
pub mod CodeUses
pub mod PartCopy
pub mod PartAmender
