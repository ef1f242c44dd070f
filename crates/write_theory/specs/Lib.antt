pub mod RuleLists
pub mod RuleTable
