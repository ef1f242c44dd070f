pub mod BackWords
pub mod BackLaws
