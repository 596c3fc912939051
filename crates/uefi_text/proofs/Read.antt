-- What the reader finds.
pub mod Marks
pub mod Cuts
pub mod Instances
pub mod Only
pub mod Digits
pub mod Numbers
pub mod Hex
pub mod Arguments
pub mod Eui
pub mod Segments
pub mod Answers
pub mod Node
pub mod Lists
pub mod Forms
pub mod Generic
pub mod Whole
