pub mod Numbers
pub mod PartKinds
pub mod Leaves
pub mod Bounds
