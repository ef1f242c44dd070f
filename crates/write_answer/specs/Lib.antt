pub mod MinedNumbers
pub mod Stages
