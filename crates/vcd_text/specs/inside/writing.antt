-- Definitions that `writing` and its proofs cite.
pub mod Lines
pub mod Declarations
pub mod Values
pub mod Cursors
pub mod Window
pub mod Transitions
