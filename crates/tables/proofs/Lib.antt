pub mod Rows
pub mod Cells
pub mod Filling
pub mod FromFn
