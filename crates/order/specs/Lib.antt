-- An order of steps, and its check.
pub mod Order
pub mod Steps
pub mod SetsWorking
