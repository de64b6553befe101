pub mod Cases
pub mod Grammar
pub mod Parse
