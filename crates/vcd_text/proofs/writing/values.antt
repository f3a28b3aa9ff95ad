-- Lemmas of `writing/values`.
pub mod LetterBits
pub mod ShortForm
