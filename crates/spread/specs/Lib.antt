pub mod Keys
pub mod Spread
pub mod Rounds
