-- Definitions that `running` and its proofs cite.
pub mod LineAnswers
pub mod Stages
pub mod Run
pub mod RunLines
pub mod RunOnBytes
