pub mod Calls
pub mod Session
pub mod View
pub mod Ranges
pub mod Inner
pub mod Answers
pub mod Contract
pub mod History
