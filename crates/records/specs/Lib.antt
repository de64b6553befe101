pub mod Numbers
pub mod PackHeld
pub mod Kept
