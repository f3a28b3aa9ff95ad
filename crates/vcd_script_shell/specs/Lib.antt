-- The definitions of what programs share that carry out a script.
pub mod ScriptOptions
pub mod RunReport
