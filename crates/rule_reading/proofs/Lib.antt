pub mod ReadsLaws
pub mod RuleStateLaws
pub mod TurnLaws
