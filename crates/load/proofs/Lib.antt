-- Laws of loaded numbers. Assumes nothing.
pub mod HeldRecords
pub mod Loading
pub mod Places
pub mod LoadedBody
pub mod Packs
