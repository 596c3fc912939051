-- What runs of deliveries, boots and restarts lead to.
pub mod Numbers
pub mod Gaps
pub mod Deliveries
pub mod NextNumbers
pub mod Effects
pub mod Told
pub mod Histories
pub mod Hands
pub mod Pendings
pub mod Valid
pub mod Repeats
pub mod Orders
