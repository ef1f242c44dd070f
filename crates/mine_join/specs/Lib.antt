pub mod Joins
pub mod JoinedLaws
