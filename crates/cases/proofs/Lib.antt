pub mod Bounds
pub mod Computed
pub mod Encode
pub mod Once
pub mod Run
pub mod SubjectIndex
pub mod Table
