-- What the runner reads and prints.
pub mod Records
pub mod Runner
pub mod Working
