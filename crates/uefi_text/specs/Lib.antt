-- what public contracts and the laws cite
pub mod Number
pub mod Bytes
pub mod Guid
pub mod Segment
pub mod Node
pub mod Path
pub mod Printed
pub mod Fault
pub mod Words
-- what private contracts cite
pub mod Printer
pub mod Within
pub mod Reader
pub mod Answers
pub mod Places
pub mod Cuts
pub mod Instances
