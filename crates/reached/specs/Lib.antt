pub mod Keys
pub mod Walked
