-- Lemmas: the codes that the signals of another capture get.
pub mod FreshCodes
pub mod Gives
pub mod CodedWaves
pub mod NewWaves
pub mod Fits
pub mod File
