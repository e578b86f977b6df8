-- Laws of works.
pub mod Groups
pub mod Opposites
pub mod Types
