pub mod Input
pub mod Origin
pub mod Props
pub mod Held
