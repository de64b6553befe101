-- Laws of a record's numbers. Assumes nothing.
pub mod Putting
pub mod Terms
pub mod AtomLoop
pub mod RuleParts
pub mod Short
pub mod Keeping
