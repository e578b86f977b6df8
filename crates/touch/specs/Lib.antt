-- The steps of a queue, and what each touches.
pub mod Parts
pub mod Touch
pub mod BindsWorking
pub mod TablesWorking
