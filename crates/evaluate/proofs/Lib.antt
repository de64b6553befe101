pub mod CertainAnswers
pub mod Built
pub mod InLists
pub mod HeldGraph
pub mod KindOrder
pub mod NamedNodes
pub mod CertainPairs
pub mod Places
mod Readied
mod Searching
pub mod Started
