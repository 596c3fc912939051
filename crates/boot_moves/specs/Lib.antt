pub mod Deeds
pub mod Parts
pub mod Ending
pub mod Next
pub mod Exchanges
pub mod Kept
pub mod Outcome
pub mod Follows
