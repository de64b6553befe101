pub mod ResolvedNodes
pub mod Keys
pub mod Shaped
pub mod Places
pub mod Origin
