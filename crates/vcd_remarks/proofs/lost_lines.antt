-- Lemmas of `lost_lines`.
pub mod LostEdges
