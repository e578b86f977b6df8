-- Saved states: the file, loading it and saving it.
pub mod File
pub mod Load
pub mod Save
