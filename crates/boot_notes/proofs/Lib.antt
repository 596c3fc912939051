pub mod Lasts
pub mod Spellings
