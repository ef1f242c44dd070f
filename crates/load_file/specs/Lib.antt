pub mod GeneratedNumbers
pub mod GeneratedLaws
