-- Laws of one instruction.
pub mod Executing
