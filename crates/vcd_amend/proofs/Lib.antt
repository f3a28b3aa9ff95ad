-- Lemmas about amended files.
pub mod amended
pub mod retimed
pub mod given_codes
pub mod what_stands
pub mod worked
pub mod shared
