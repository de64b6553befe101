pub mod Answered
pub mod GraphIn
pub mod Kinds
pub mod Listed
pub mod Named
