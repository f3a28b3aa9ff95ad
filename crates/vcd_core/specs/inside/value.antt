-- Definitions that `value` and its proofs cite.
pub mod PlanesOfLetters
pub mod EqualByLetters
