pub mod Sets
pub mod Cells
pub mod Search
pub mod Passing
pub mod Joining
pub mod Demanded
pub mod Made
pub mod Demands
