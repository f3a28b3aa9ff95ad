-- Lemmas of `change_finders`.
pub mod InvertedTwice
pub mod ChangesTaken
