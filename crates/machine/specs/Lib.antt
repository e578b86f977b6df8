-- Register instructions: steps, whole instructions, and their end.
pub mod Run
pub mod Step
pub mod Iota
pub mod Instruction
pub mod Working
