pub mod Fronts
pub mod BuildLaws
pub mod TripleNumbers
pub mod SubjectEntries
