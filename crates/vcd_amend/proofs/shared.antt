-- Lemmas: shared.
pub mod Lists
pub mod Variables
