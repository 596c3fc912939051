pub mod FieldLists
pub mod Spellings
pub mod BootParts
mod Standings
