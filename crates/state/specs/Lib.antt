-- The state, the answers of calls and what a call leaves.
pub mod Answer
pub mod Elements
pub mod Marks
pub mod Outcome
pub mod State
