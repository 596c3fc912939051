pub mod NextNumber
pub mod NotMade
pub mod Replies
pub mod Told
pub mod LeftOut
pub mod Guarded
