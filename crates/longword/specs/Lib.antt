-- The integer, logical and shift work of one element.
pub mod Longword
