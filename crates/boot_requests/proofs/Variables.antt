-- The variables that stand for a state.
pub mod Stored
pub mod Edits
pub mod OutcomeBytes
pub mod Marks
pub mod StateOf
pub mod Images
pub mod OrderLists
pub mod FreeNumbers
pub mod PlanEntries
