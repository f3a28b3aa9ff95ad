-- The definitions of vcdedit, from the words of its command line to the report of a run.
pub mod CommandLine
pub mod ProgramEnds
