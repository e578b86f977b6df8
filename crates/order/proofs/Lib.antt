-- Laws of order lists, of their check, and of its code.
pub mod Tests
pub mod Law
pub mod Meaning
pub mod SameCheck
pub mod Passing
pub mod RunLoop
pub mod Sets
pub mod Filling
pub mod Groups
pub mod Starting
pub mod Taking
pub mod CheckLoop
pub mod Marking
