pub mod Requests
pub mod RunFault
pub mod Once
pub mod Calls
pub mod Applied
pub mod Same
pub mod Noted
