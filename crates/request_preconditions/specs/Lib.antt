pub mod Precondition
