pub mod Records
pub mod NodeList
