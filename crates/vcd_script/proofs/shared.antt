-- Lemmas: shared.
pub mod LinesAndHistory
pub mod LawsOfRun
pub mod AnsweredLines
pub mod LinesLeft
pub mod PartsOfRun
