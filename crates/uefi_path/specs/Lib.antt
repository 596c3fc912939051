-- what public contracts and the laws cite
pub mod Answer
pub mod Standard
pub mod Units
pub mod Row
pub mod Parts
pub mod Node
pub mod Path
pub mod Nodes
pub mod Views
pub mod Fault
pub mod Words
pub mod Equality
-- what private contracts cite
pub mod Reader
pub mod Writer
