-- Definitions on numbers that every layer uses.
pub mod Bits
pub mod Bytes
pub mod Choice
pub mod Halves
pub mod Over
pub mod Relation
pub mod Rising
pub mod Signed
pub mod Working
