pub mod TooManyHeads
pub mod HeldRule
pub mod Collecting
