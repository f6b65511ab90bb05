pub mod Standing
pub mod Names
