pub mod Agreeing
pub mod DependencyLoop
pub mod Even
pub mod HeldRows
pub mod KeySearch
pub mod Keying
pub mod Listing
