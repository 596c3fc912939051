-- what public contracts cite
pub mod Position
pub mod Syntax
-- what members of trees are, and what they mean
pub mod Members
pub mod Values
pub mod Entries
