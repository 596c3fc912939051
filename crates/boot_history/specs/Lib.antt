pub mod Counted
pub mod FileNames
pub mod Numbers
