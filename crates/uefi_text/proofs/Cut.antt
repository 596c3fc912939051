-- How a text is cut.
pub mod Marks
pub mod Segments
pub mod Paths
