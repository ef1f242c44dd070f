pub mod Matches
pub mod MatchTableLaws
pub mod MatchLaws
pub mod ValueMeansLaws
