-- Lemmas of `joint_rises`.
pub mod JointEdges
