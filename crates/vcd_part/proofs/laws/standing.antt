-- Lemmas: what of a file stands in its part, and at which tick.
pub mod PiecesWithTicks
pub mod StandingSteps
pub mod StandingPieces
