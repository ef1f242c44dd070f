pub mod PartWords
pub mod AtomLaws
pub mod PartWordLaws
