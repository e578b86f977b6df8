-- The three demands.
pub mod Calls
pub mod One
pub mod Written
pub mod Two
pub mod Three
pub mod Marks
pub mod Rounds
