-- What contracts are in terms of.
pub mod Asked
pub mod Cut
pub mod EfivarRows
pub mod EfivarText
pub mod Lines
pub mod Listing
pub mod Nodes
pub mod Number
pub mod Options
pub mod Parts
pub mod Statuses
pub mod Units
pub mod Values
pub mod Vendors
pub mod Words
