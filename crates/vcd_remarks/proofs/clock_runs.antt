-- Lemmas of `clock_runs`.
pub mod EdgeChanges
pub mod EndedRuns
pub mod CountedBits
pub mod NotedRuns
pub mod ShortRuns
pub mod LevelsFound
