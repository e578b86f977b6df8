-- The three theorems.
pub mod Keeping
pub mod CallsKeep
pub mod One
pub mod Coming
pub mod Placing
pub mod Ending
pub mod Gathering
pub mod Elementwise
pub mod Counting
pub mod MarksOf
pub mod Stepping
pub mod Moved
pub mod Two
pub mod Three
pub mod Marks
pub mod Rounds
