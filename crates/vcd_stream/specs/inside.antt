-- Intermediate definitions, cited only by proofs and by contracts of private functions. A reader
-- need not believe them.
pub mod WaveEdits
pub mod SignalEdits
pub mod CompactWaves
