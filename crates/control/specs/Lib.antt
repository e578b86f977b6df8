-- What each control move gives back and leaves.
pub mod Moves
