-- Lemmas of `command_line`.
pub mod AskedOptions
