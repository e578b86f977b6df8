-- What document 01, and document 02 for division and underflow, say of F_floating, over the numbers of a format: a word's fields and exact value, the
-- exact operations, the rounding, what is delivered, and what an instruction's element receives.
pub mod Format
pub mod Exact
pub mod Round
pub mod Delivered
pub mod Operations
pub mod Reading
-- What the functions inside the crate hand each other; no public promise cites it.
pub mod Working
