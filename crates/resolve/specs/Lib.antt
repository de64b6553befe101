pub mod Listed
pub mod Wanted
pub mod Search
