-- The laws that the functions' proofs cite, by subject.
pub mod Arithmetic
pub mod Rounding
pub mod Delivering
pub mod Align
pub mod Refusing
pub mod Halves
pub mod Products
pub mod Quotients
pub mod Packing
pub mod Magnitude
pub mod Sums
pub mod Meaning
pub mod Converting
pub mod Ordering
pub mod Double
pub mod Shown
pub mod Signed
