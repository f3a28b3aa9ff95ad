-- Lemmas of `scope_paths`.
pub mod NotedPaths
