-- The definitions of vcd_stream: what stages give, which edits they make, what pipelines give, and
-- the view of compact waves.
pub mod Stages
pub mod WaveEdits
pub mod Pipelines
pub mod SignalEdits
pub mod CompactWaveView
pub mod inside
