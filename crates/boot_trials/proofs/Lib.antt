pub mod AddedPlans
pub mod Files
pub mod Outcomes
pub mod Runs
