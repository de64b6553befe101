pub mod Bounds
pub mod Once
pub mod Pairs
