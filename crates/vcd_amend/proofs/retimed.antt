-- Lemmas: files after ticks are cut out.
pub mod Ticks
pub mod Copies
pub mod Kinds
pub mod LastChanges
pub mod Accepted
pub mod Meaning
pub mod Pieces
pub mod ChangesAtTicks
pub mod Order
pub mod NoCut
pub mod OtherTicks
