pub mod Faults
pub mod Following
