-- Lemmas of `remarks`.
pub mod Fates
pub mod EventsLeftOut
pub mod CodesApart
pub mod ChangesLeft
