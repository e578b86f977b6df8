-- Laws of the listing.
pub mod Printing
pub mod Width
pub mod Writing
