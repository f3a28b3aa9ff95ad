-- Lemmas of `hearing`.
pub mod PartWaves
pub mod HollowParts
