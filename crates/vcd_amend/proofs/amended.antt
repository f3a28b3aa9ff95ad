-- Lemmas: amended files.
pub mod OneCode
pub mod Due
pub mod Body
pub mod Changes
pub mod Along
pub mod Fitting
pub mod Declared
pub mod Whole
pub mod Spelled
pub mod OtherWords
pub mod WholeText
pub mod CopiedText
