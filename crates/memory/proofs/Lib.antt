-- Laws of the tests, and of what is moved.
pub mod Windows
pub mod Filling
pub mod Walking
pub mod Testing
pub mod Moving
pub mod Relative
pub mod Accessing
pub mod Outcomes
