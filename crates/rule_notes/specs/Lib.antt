pub mod Tally
pub mod KeptLaws
pub mod LineSteps
