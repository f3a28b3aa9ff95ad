-- Lemmas of `laws`.
pub mod sent
pub mod StraightEdges
pub mod ApartLines
