-- what public contracts and the laws cite, in the order in which to read it
pub mod Damage
pub mod Present
pub mod PresentMap
pub mod Record
pub mod Rewriting
pub mod Volume
pub mod Words
-- for private functions
pub mod RecordsFault
