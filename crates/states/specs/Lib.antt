pub mod State
pub mod Lists
pub mod Fits
pub mod Parts
pub mod Living
