pub mod FlagLaws
pub mod WordLaws
