pub mod Scratch
pub mod PartBlockLaws
pub mod MergedLaws
