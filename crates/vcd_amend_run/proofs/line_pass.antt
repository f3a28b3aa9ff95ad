-- Lemmas of `line_pass`.
pub mod GivenChanges
pub mod HeardPrefix
pub mod CutTicks
pub mod LineLetters
pub mod FileEdges
pub mod Declared
pub mod PassEnds
