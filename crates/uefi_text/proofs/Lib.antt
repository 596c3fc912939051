pub mod Bytes
pub mod Cut
pub mod Means
pub mod Read
