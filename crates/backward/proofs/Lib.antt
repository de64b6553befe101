pub mod Backward
