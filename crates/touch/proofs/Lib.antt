-- Laws of what a step touches, and of the code that binds positions.
pub mod Places
pub mod Binding
pub mod Steps
pub mod Contents
pub mod Commute
pub mod ElementDoes
pub mod IotaDoes
pub mod Acts
pub mod Touching
pub mod Noting
