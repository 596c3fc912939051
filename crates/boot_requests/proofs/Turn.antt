-- One step of a keeper, and several, one after the other.
pub mod Turns
pub mod Sequences
pub mod Replies
pub mod Answers
pub mod Slots
pub mod Fills
pub mod Plains
pub mod Steps
pub mod AppliedEntries
