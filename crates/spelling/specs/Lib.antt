pub mod Segment
pub mod Iri
pub mod ReadBack
pub mod Writing
pub mod Matching
