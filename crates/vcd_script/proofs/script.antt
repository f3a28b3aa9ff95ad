-- Lemmas of `script`.
pub mod WrongCounts
pub mod FirstLine
pub mod ParsedNumbers
