pub mod Trial
pub mod File
pub mod Outcome
pub mod Run
pub mod Words
pub mod Adding
