-- What a segment means.
pub mod Texts
pub mod Reads
pub mod One
pub mod Plain
pub mod Paths
pub mod Printed
pub mod PrintedNodes
pub mod PrintedPaths
pub mod Inside
pub mod Forms
