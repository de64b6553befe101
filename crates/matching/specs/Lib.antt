pub mod Rule
pub mod Plan
