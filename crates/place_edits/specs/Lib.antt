pub mod Brought
pub mod LeftOut
pub mod Takeable
pub mod Undo
