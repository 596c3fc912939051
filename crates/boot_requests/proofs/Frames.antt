-- Requests as bytes.
pub mod TwoBytes
pub mod KindBytes
pub mod Raws
pub mod OptionPlaces
pub mod Requests
pub mod Readings
pub mod Events
