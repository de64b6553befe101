pub mod PackGiven
pub mod Rule
