pub mod Back
pub mod BootPart
pub mod Fault
pub mod Fields
pub mod Owner
pub mod Record
pub mod Timeout
pub mod Words
