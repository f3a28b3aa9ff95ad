-- Definitions that only contracts of private functions and proofs cite. A reader need not believe
-- them.
pub mod SpiParts
pub mod UartFrames
pub mod PartialWord
pub mod SpiWords
pub mod SpiSetup
pub mod i2c_bus
pub mod EdgeMaker
