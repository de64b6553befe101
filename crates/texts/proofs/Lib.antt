pub mod Keys
pub mod EarlierRecords
pub mod Bodies
pub mod EightBytes
pub mod Texts
