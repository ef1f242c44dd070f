pub mod RuleRows
pub mod RuleRowsLaws
pub mod SummaryLaws
