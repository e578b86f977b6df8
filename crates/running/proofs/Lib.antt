-- The records, the run of an input, and its text.
pub mod Parts
pub mod Queues
pub mod Texts
