-- what public contracts and the laws cite, in the order in which to read it
pub mod Orders
pub mod Parts
pub mod Lists
pub mod Switch
pub mod Addition
pub mod Edit
pub mod Restore
pub mod Run
pub mod Words
-- for private functions
pub mod Needs
pub mod Steps
pub mod Readings
