-- Laws of the saved file.
pub mod Loading
pub mod Parts
pub mod RoundTrip
pub mod Saving
