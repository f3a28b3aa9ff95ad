-- The definitions of runs that amend files.
pub mod AmendedRun
pub mod EditedText
pub mod EditsInForce
pub mod FileParts
pub mod NewNames
pub mod AmendRun
pub mod AmendRunEnds
pub mod MarkedRun
pub mod OutputRemarks
pub mod TakenRemarks
pub mod AmendOnBytes
pub mod inside
