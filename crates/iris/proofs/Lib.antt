pub mod Loaded
pub mod Segments
pub mod ArgumentsRead
pub mod IriRead
pub mod SpelledIsRead
