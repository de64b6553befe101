pub mod Accepted
pub mod FromCore
pub mod FromHeads
pub mod FromRows
pub mod FromSteps
pub mod Once
pub mod Refused
