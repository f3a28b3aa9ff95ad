-- Lemmas of `deglitch_finder`.
pub mod RunsTaken
