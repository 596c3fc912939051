pub mod Edits
pub mod Free
pub mod Planned
pub mod Stopped
