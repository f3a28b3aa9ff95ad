-- Lemmas of `origin_history`.
pub mod NotesOfHistory
