-- One instruction.
pub mod Execute
