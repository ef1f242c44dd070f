pub mod Located
pub mod RuleShowLaws
