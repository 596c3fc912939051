-- What these contracts are in terms of.
pub mod FilePath
pub mod DeviceLinks
pub mod Search
pub mod Device
pub mod Disk
