pub mod Written
pub mod Records
pub mod CoreList
pub mod SetList
pub mod Order
pub mod NodesLaws
