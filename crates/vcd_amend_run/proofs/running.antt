-- Lemmas of `running`.
pub mod CutsInForce
pub mod KnownRun
pub mod AmendedRun
pub mod PlannedRun
pub mod CarriedOut
pub mod EndsOfRun
pub mod RemarkedRun
pub mod MarkedRun
