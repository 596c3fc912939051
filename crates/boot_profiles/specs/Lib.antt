-- what public contracts and the laws cite, in the order in which to read it
pub mod Described
pub mod Entry
pub mod Order
pub mod Applied
pub mod Met
pub mod Left
pub mod Run
-- for private functions
pub mod Steps
