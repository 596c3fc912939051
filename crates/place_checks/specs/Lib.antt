-- What contracts are in terms of.
pub mod Look
pub mod SecureBoot
pub mod Verdict
pub mod WholeDisk
