-- Lemmas of `planned_lines`.
pub mod FedReplies
pub mod LinesOfCommand
pub mod DecodedCommands
pub mod LinesAfter
pub mod PlannedMachines
pub mod PlannedReplies
pub mod PlannedRemarks
pub mod PlannedRun
pub mod PlainAnswers
pub mod StreamedAnswers
