-- Laws of the machine.
pub mod Works
pub mod Gather
pub mod Chosen
pub mod LaneLoops
pub mod Recording
pub mod Compares
pub mod Values
pub mod IotaLaws
pub mod IotaTouches
pub mod Ranged
