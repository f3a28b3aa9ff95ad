-- Lemmas of `copier`.
pub mod WholeCopies
pub mod Told
pub mod BegunCopies
