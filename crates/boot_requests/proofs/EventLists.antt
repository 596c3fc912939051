-- Scripts and streams, and what they are read as.
pub mod Lines
pub mod Scripts
pub mod Texts
pub mod Streams
