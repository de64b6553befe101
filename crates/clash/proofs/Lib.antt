pub mod ClashLaws
pub mod ClashRecords
