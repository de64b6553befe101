pub mod SetNumbers
pub mod Marks
pub mod Closing
pub mod Invented
