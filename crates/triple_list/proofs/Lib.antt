pub mod GroupLaws
pub mod ListedLaws
pub mod EdgeLaws
pub mod TripleLaws
