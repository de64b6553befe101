pub mod Agree
pub mod Bytes
pub mod Cases
pub mod Complete
pub mod Sound
