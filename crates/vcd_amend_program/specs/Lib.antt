-- The definitions of vcdedit-amend, from the words of its command line to the report of a run.
pub mod Report
pub mod CommandLine
pub mod Sums
pub mod ProgramEnds
pub mod PartOutcome
pub mod PartRemarks
pub mod OptionsEnd
pub mod Marks
pub mod FoundMarks
pub mod VerifyOutcome
pub mod inside
