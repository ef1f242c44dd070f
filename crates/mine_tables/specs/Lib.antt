pub mod Matching
pub mod MatchingLaws
pub mod TableLaws
