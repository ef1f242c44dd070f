pub mod PartLegalLaws
pub mod Checked
pub mod CheckedLaws
