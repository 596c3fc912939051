-- Lemmas.
pub mod Added
pub mod Blocks
pub mod Characters
pub mod Cuts
pub mod Escapes
pub mod Fronts
pub mod Identities
pub mod Leads
pub mod Lines
pub mod TooLong
