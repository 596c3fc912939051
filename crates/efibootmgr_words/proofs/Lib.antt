-- Lemmas.
pub mod Cuts
pub mod Digits
pub mod FirstUnits
pub mod Letters
pub mod Listings
pub mod Orders
pub mod OrderWords
pub mod Reading
pub mod Rows
pub mod Saturated
pub mod Taking
