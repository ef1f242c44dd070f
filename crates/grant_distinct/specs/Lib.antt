pub mod Distinct
pub mod FillingLaws
pub mod DistinctWordLaws
