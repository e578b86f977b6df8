-- Laws of the integer work of one element.
pub mod Forms
pub mod LowBits
pub mod Order
pub mod Overflow
pub mod ProductRange
