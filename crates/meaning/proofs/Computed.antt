pub mod Certain
pub mod Evaluate
pub mod Walk
