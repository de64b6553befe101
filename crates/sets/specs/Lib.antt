pub mod Buffers
pub mod Ordered
pub mod Progress
pub mod Rising
pub mod OrderedSet
