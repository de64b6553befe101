pub mod EveryName
pub mod FromPrepared
pub mod Once
