pub mod Collecting
pub mod CollectingLaws
