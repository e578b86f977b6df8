-- What one element receives.
pub mod Receives
pub mod Working
