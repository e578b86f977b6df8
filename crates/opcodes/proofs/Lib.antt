-- Laws of opcodes and control words.
pub mod Test
pub mod Rule
pub mod OperatedOn
pub mod Passed
