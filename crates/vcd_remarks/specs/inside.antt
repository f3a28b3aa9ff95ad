-- Intermediate definitions, cited only by proofs and by contracts of private functions. A reader
-- need not believe them.
pub mod FoundTicks
pub mod LineRemarks
pub mod remarks
pub mod LostLines
pub mod LineBits
pub mod UartFinder
pub mod RunsBelow
pub mod ClockRuns
pub mod SpiLine
pub mod SpiSelection
pub mod SpiClock
pub mod SpiFinder
pub mod BusFindings
pub mod JointRises
pub mod DeglitchFinder
pub mod EditFinder
