pub mod Orders
pub mod Talk
