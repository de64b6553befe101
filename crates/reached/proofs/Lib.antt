pub mod Walking
pub mod Listing
