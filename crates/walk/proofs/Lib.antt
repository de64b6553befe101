pub mod Alive
pub mod WalkedAnswers
mod Expressions
pub mod KindLaws
mod Links
pub mod Meanings
mod Trees
