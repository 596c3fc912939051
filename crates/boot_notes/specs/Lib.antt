pub mod Digest
pub mod Notes
pub mod Bytes
pub mod Fault
pub mod Words
