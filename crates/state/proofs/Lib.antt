-- Laws of the state.
pub mod Marking
pub mod Ranges
