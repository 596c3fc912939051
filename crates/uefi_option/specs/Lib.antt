-- what public contracts and the laws cite
pub mod LoadOption
pub mod Attributes
pub mod Text
pub mod Fault
pub mod View
pub mod PartsFault
pub mod Words
pub mod Equality
-- what private contracts cite
pub mod Shared
pub mod Reader
pub mod Writer
