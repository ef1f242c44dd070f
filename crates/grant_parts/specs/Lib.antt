pub mod Parts
pub mod PartTableLaws
