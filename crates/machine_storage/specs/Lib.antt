pub mod Moves
pub mod Owner
pub mod StateAccess
