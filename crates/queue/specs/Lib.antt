-- Queues of register instructions: the two calls.
pub mod Queue
pub mod Run
pub mod Claim
pub mod CallsWorking
