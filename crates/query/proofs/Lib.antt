mod LeafLaws
mod PartLaws
pub mod TreeLaws
mod WholeText
