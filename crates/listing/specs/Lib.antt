-- The listing of a state and of a file.
pub mod Text
pub mod Working
