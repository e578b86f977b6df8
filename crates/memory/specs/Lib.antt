-- Memory instructions: the window, the addresses and their tests, and what is moved.
pub mod Works
pub mod Window
pub mod Address
pub mod Move
pub mod Working
