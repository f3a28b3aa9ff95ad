-- Lemmas of `reading/digit_blocks`.
pub mod LetterBlocks
