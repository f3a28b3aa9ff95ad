-- Lemmas of `remarks`.
pub mod RemarksInTurn
pub mod AllRuns
pub mod PulsesTakenOut
pub mod DelaysAtTicks
pub mod NamesOfSeveral
pub mod FindingsOfSignals
