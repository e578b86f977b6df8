-- What the floating operations give to C.
pub mod Given
