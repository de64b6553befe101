pub mod Copy
pub mod Rank
pub mod Insert
pub mod Insertion
pub mod Progress
pub mod Slices
