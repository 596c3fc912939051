-- What contracts are in terms of.
pub mod Image
pub mod Finding
pub mod Facts
pub mod Numbers
pub mod Listed
pub mod Named
pub mod Target
pub mod Destination
pub mod Twins
pub mod FileNames
