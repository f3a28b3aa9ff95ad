-- The definitions of vcdedit-compare, from the words of its command line to its report.
pub mod CaptureFacts
pub mod ReportLines
pub mod Sameness
pub mod ComparisonText
pub mod JsonText
pub mod Reports
pub mod ErrorReport
pub mod CommandLine
pub mod ProgramEnds
pub mod inside
