pub mod Lengths
pub mod Meets
pub mod Once
pub mod Tested
