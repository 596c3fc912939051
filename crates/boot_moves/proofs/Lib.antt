pub mod Deeds
pub mod Doings
pub mod Exchanges
pub mod Replays
