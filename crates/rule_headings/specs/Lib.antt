pub mod Headings
pub mod HeadingLaws
pub mod RuleLevelLaws
