pub mod Walks
pub mod Rounds
pub mod Spreading
