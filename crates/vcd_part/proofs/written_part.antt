-- Lemmas of `written_part`.
pub mod SaidOfParts
