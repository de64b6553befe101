pub mod CoreHeld
pub mod Heads
pub mod Bounds
pub mod Collected
pub mod Outcomes
pub mod ForHeads
