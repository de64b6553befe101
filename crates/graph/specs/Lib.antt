pub mod Fronts
pub mod Build
