pub mod Once
pub mod RefusedOrGraph
