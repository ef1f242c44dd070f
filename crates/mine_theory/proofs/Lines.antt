pub mod PartLinesLaws
pub mod RuleBytesLaws
pub mod RuleLinesLaws
