pub mod WholeRuns
pub mod Turn
pub mod Frames
pub mod Variables
pub mod Streams
pub mod EventLists
pub mod Answering
