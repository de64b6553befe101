pub mod Own
pub mod Seen
pub mod Steps
pub mod Ready
