-- Definitions about writing the amended file.
pub mod CodeUses
pub mod HeldChanges
pub mod CutAmender
pub mod DueChanges
pub mod CodeProgress
pub mod ValueChanges
pub mod WordsInPlace
pub mod FileAmender
pub mod VariableLeft
