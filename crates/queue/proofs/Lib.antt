-- Laws of the two calls on a queue.
pub mod Straight
pub mod Claim
pub mod Accepting
pub mod Through
pub mod Calls
pub mod Verdicts
pub mod Preparing
pub mod DemandThree
pub mod Again
