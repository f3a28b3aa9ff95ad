-- Lemmas that other crates need.
pub mod WholeFiles
