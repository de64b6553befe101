pub mod SeenNumbers
pub mod Owning
pub mod Forward
pub mod Stepping
