-- Lemmas: what stands of a file that is amended for another capture.
pub mod GoingChanges
pub mod Whole
pub mod KeptWaves
pub mod ComingAndGoing
