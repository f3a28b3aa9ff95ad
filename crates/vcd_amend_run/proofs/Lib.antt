-- Lemmas about runs that amend files.
pub mod worked
pub mod streamed_lines
