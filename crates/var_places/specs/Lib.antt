pub mod FileKind
pub mod Folder
pub mod Input
pub mod Machine
