-- What contracts are in terms of.
pub mod Cut
pub mod Number
pub mod Device
pub mod Escape
pub mod Mount
pub mod Mounts
pub mod Adding
pub mod Leading
pub mod LoaderName
pub mod PartitionId
pub mod Partition
pub mod Uevent
