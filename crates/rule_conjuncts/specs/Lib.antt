pub mod Summary
pub mod SummaryLaws
pub mod SummaryLineLaws
