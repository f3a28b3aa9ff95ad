-- Lemmas: what is found of a UART line.
pub mod HeldTicks
pub mod EdgeTaken
pub mod LineChanges
pub mod AmidByEdges
pub mod UartFound
