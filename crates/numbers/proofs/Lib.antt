-- Laws of the definitions on numbers and lists.
pub mod BitLaws
pub mod Chunks
pub mod Differences
pub mod LittleEndian
pub mod Longwords
pub mod Over
pub mod Places
pub mod Relations
pub mod Rising
pub mod SetBits
pub mod Sets
pub mod Tests
pub mod Unions
