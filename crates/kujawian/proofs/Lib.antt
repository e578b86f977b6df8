-- Five numbers as a control record, the numbers of a reading, and what a control write leaves.
pub mod Fields
pub mod Stored
pub mod Writes
