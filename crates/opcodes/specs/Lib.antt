-- Opcodes and control words.
pub mod Works
pub mod Opcodes
pub mod ControlWord
pub mod Decoding
pub mod Masking
pub mod Working
