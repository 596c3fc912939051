-- Events that a keeper takes one after the other, and what is answered to each.
pub mod Followers
pub mod Lists
pub mod Happening
