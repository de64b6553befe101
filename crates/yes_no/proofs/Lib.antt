pub mod FromPrepared
pub mod Once
