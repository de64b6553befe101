pub mod Parts
pub mod Threading
pub mod Walk
