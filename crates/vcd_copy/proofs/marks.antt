-- Lemmas: marked files.
pub mod MarkBytes
pub mod MarkWords
pub mod MarkedFiles
pub mod MarkedCopies
pub mod MarkedItems
