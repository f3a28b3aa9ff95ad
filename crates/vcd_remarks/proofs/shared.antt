-- Lemmas: shared.
pub mod SessionRemarks
pub mod RemarksOnHollow
pub mod FoundSoFar
