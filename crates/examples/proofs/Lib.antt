-- The table of examples, and the tests of the opcode table.
pub mod Rows
pub mod Settled
pub mod Works
pub mod Elements
pub mod Memory
pub mod Controls
pub mod Numbers
pub mod Queues
pub mod Marks
pub mod Readings
pub mod Table
pub mod OpcodeTable
