pub mod Sizes
pub mod ListSizeLaws
pub mod RuleSizeLaws
